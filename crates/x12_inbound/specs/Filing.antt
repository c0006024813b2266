-- What is filed of an interchange that arrived.
use Rattle.std.specs.Prelude.{ℕ, List, Option, option_map, Vec}
use Rattle.std.specs.Global.{Global}
use Rattle.x12_envelopes.specs.declared.party.Party.{Party}
use Rattle.x12_inbound.specs.declared.filing.Filed.{Filed}
use Rattle.x12_inbound.specs.declared.filing.FiledRow.{FiledRow}
use Rattle.x12_inbound.specs.Order.{InterchangeKey, interchange}

-- a filed interchange: its sender, its number (ISA13), its bytes, and the reply that was kept, None
-- where none was due
pub record FiledInterchange : Type 0 where
  pub partner : Party
  pub icn : ℕ
  pub bytes : List ℕ
  pub reply : Option (List ℕ)

-- the interchange that it is
abbrev pub filed_key : FiledInterchange → InterchangeKey
filed_key f = interchange f.partner f.icn

-- what the code's values stand for
abbrev pub reply_bytes : Option (Vec ℕ Global) → Option (List ℕ)
reply_bytes reply = option_map (λ (v : Vec ℕ Global). v.items) reply

abbrev pub filed_under : Party → ℕ → Filed → FiledInterchange
filed_under partner icn f =
    record { partner = partner; icn = icn; bytes = f.bytes.items; reply = reply_bytes f.reply }

abbrev pub filed_row_view : FiledRow → FiledInterchange
filed_row_view r = filed_under r.partner r.icn r.filed
