-- A quoted text as the list of its bytes, so that a definition can be held against the document. Assumes nothing.
use Rattle.std.specs.Prelude.{ℕ, List, [], ◌∷◌}
use Prim.Native.Char.{code}
use Prim.Native.String.{String, [] as end, ◌∷◌ as ◌▹◌}

abbrev pub bytes : String → List ℕ
bytes end = []
bytes (c ▹ s) = code c ∷ bytes s
