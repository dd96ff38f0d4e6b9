-- Negatives of numbers below 2^63, as the machine's signed integers have them.
-- Assumes nothing.
use mathlib.Core.Path.{◌≡◌}
use Prim.Native.Nat.{ℕ, zero, suc, ◌^◌, ◌<◌}
use native.Mathlib.Omega.{arith}
use lib.IntN.{pos, neg_ℤ, ◌-ℤ◌, +ℤ_idl}
use lib.Signed.{mag}

-- 0 - n is -n
pub zero-less : (n : ℕ) → pos 0 -ℤ pos n ≡ neg_ℤ (pos n)
zero-less n = +ℤ_idl (neg_ℤ (pos n))

-- and it fits
pub negative_fits : (n : ℕ) → n < 2 ^ 63 → mag (neg_ℤ (pos n)) < 2 ^ 63
negative_fits zero h = h
negative_fits (suc n) h = omega arith
