-- Each key and each word is found under its own number: names are told apart.
-- Assumes nothing.
use mathlib.Core.Path.{◌≡◌, refl}
use mathlib.Core.Bool.{Bool}
use mathlib.Core.List.{[]}
use Prim.Native.Nat.{ℕ, ◌+◌, ◌<◌}
use lib.Dec.{eqb}
use lib.ListN.{length}
use borrow.Author.Tests.{eqb-true}
use Rattle.byte.specs.Ascii.{bytes}
use Rattle.byte.specs.Same.{same, stands_at}
use Rattle.byte.proofs.Table.{every, holds_at}
use Rattle.name_table.specs.Names.{key_name, word_name, words_of}
use Rattle.name_table.specs.Find.{key_number, word_number, number_in, among, prefix_len, start_len}

finds : ℕ → Bool
finds k = eqb (key_number (key_name (k + 1))) (k + 1)

pub key-own : (k : ℕ) → k < 19 → key_number (key_name (k + 1)) ≡ k + 1
unfolding finds key_number key_name number_in among same
key-own k h = eqb-true _ _ (holds_at 19 finds refl k h)

finds-words : ℕ → Bool
finds-words k = every (length (words_of k)) (λ (w : ℕ). eqb (word_number k (word_name k (w + 1))) (w + 1))

pub word-own : (k w : ℕ) → k < 20 → w < length (words_of k) → word_number k (word_name k (w + 1)) ≡ w + 1
unfolding finds-words word_number word_name words_of number_in among same
word-own k w h l = eqb-true _ _ (holds_at (length (words_of k)) (λ (v : ℕ). eqb (word_number k (word_name k (v + 1))) (v + 1)) (holds_at 20 finds-words refl k h) w l)

pub no-capital : key_number (bytes "Port") ≡ 0
unfolding key_number number_in among same
no-capital = refl

pub no_longer : key_number (bytes "ports") ≡ 0
unfolding key_number number_in among same
no_longer = refl

pub no-empty : key_number [] ≡ 0
unfolding key_number number_in among same
no-empty = refl

pub no-prefix : prefix_len (bytes "postgres:/") ≡ 0
unfolding prefix_len start_len stands_at same
no-prefix = refl

pub short-prefix : prefix_len (bytes "postgres://") ≡ 11
unfolding prefix_len start_len stands_at same
short-prefix = refl

pub long-prefix : prefix_len (bytes "postgresql://h") ≡ 13
unfolding prefix_len start_len stands_at same
long-prefix = refl
