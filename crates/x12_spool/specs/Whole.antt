-- A file that is put whole: written under a name with a dot in front, then renamed, and the folder synced.
use Rattle.std.specs.Prelude.{◌∷◌, [], List, ℕ}
use Rattle.x12_profile.specs.Interchange.{Bytes}
use Rattle.x12_spool.specs.Deed.{Deed, Writes, Renames, Syncs}

-- a dot, then the name
abbrev pub dotted_name : List ℕ → List ℕ
dotted_name name = 46 ∷ name

abbrev pub puts_under : List ℕ → List ℕ → Bytes → List Deed
puts_under dot name bytes = Writes dot bytes ∷ Renames dot name ∷ Syncs ∷ []

abbrev pub puts_whole : List ℕ → Bytes → List Deed
puts_whole name bytes = puts_under (dotted_name name) name bytes
