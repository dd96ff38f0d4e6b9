-- The hosts that lie inside, as `all` counts them.
-- Assumes nothing.
use Rattle.std.proofs.Common.{◌≡◌, ℕ, List, [], ◌∷◌, refl}
use Rattle.std.specs.List.{list_all}
use Rattle.lists.specs.declared.Host.{Host}
use Rattle.config.specs.Sound.{kind_in, all_in}

pub all-is : (n : ℕ) (hosts : List Host) → list_all (λ h. kind_in n h.kind) hosts ≡ all_in n hosts
unfolding all_in
all-is n [] = refl
all-is n (h ∷ hs) = rw (all-is n hs)
