-- Texts in ASCII as bytes, so that definitions and examples can be read.
-- Assumes nothing.
use Rattle.std.specs.Prelude.{List, [], ◌∷◌, ℕ}
use Prim.Native.Char.{code}
use Prim.Native.String.{String, [] as nothing, ◌∷◌ as ◌then◌}

abbrev pub bytes : String → List ℕ
bytes nothing = []
bytes (◌then◌ c s) = code c ∷ bytes s
