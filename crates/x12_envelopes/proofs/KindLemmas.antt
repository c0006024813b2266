-- Kinds that are the same, and those that stand at any level.
use Rattle.std.proofs.Common.{◌≡◌, true, false, refl}
use Rattle.x12_envelopes.specs.declared.content.Kind.{Kind}
use Rattle.x12_envelopes.specs.declared.content.Kind.TheVariants.{Empty, Isa, Ta1, Gs, St, Data, Se, Ge, Iea}
use Rattle.x12_envelopes.specs.declared.content.Level.{Level}
use Rattle.x12_envelopes.specs.declared.content.Level.TheVariants.{Front, Between, InGroup, InSet}
use Rattle.x12_envelopes.specs.Outline.{is_kind, kind_is_misplaced}

-- what is the same kind is that kind
pub kind_is : (k kind : Kind) → is_kind k kind ≡ true → kind ≡ k
kind_is Empty Empty is = refl
kind_is Isa Isa is = refl
kind_is Ta1 Ta1 is = refl
kind_is Gs Gs is = refl
kind_is St St is = refl
kind_is Data Data is = refl
kind_is Se Se is = refl
kind_is Ge Ge is = refl
kind_is Iea Iea is = refl
kind_is k kind is = absurd (let no : ⊥ = cc is in no)

-- GS and IEA stand anywhere
pub gs_stands : (level : Level) → kind_is_misplaced level Gs ≡ false
gs_stands Front = refl
gs_stands Between = refl
gs_stands InGroup = refl
gs_stands InSet = refl

pub iea_stands : (level : Level) → kind_is_misplaced level Iea ≡ false
iea_stands Front = refl
iea_stands Between = refl
iea_stands InGroup = refl
iea_stands InSet = refl
