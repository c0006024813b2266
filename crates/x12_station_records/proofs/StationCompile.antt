-- What the statements on a station's tables compile to.
use Rattle.std.proofs.Common.{◌≡◌, ℕ, List, [], ◌∷◌, codes, refl}
use Rattle.sqlite.specs.Command.TheVariants.{Update, Delete, Insert}
use Rattle.sqlite.specs.Source.TheVariants.{Values}
use Rattle.sqlite.specs.Listing.{understood}
use Rattle.sqlite.specs.Term.{Term, col, lit}
use Rattle.sqlite.specs.declared.types.Value.TheVariants.{Null}
use Rattle.sqlite.proofs.Callers.{IsPlain, command_of}
use Rattle.sqlite_tied.specs.Compute.{everything}
use Rattle.sql_rows.proofs.Selects.{one_table}
use Rattle.sql_rows.proofs.Statements.{delete_of}
use Rattle.x12_tables.proofs.KeyLemmas.{is}
use Rattle.x12_station_records.specs.StationSchema.{station_schema}

abbrev pub count_text : List ℕ
count_text = codes "UPDATE numbers SET icn = ?1, gcn = ?2, seq = ?3"

abbrev pub count_shows : List Term
count_shows = col 1 0 ∷ col 1 0 ∷ lit Null ∷ col 1 2 ∷ col 1 3 ∷ col 1 4 ∷ col 1 5 ∷ col 0 0 ∷ col 0 1 ∷ col 0 2 ∷ col 1 9 ∷ col 1 10 ∷ col 1 11 ∷ []

pub count_is : (command_of (understood station_schema count_text) ≡ Update 0 (record { lets = []; body = one_table 0 [] count_shows [] })) × IsPlain (understood station_schema count_text)
unfolding understood everything
count_is = (refl, (refl, refl))

abbrev pub withdraw_text : List ℕ
withdraw_text = codes "DELETE FROM agreement WHERE partner = ?1"

pub withdraw_is : (command_of (understood station_schema withdraw_text) ≡ Delete 1 (delete_of 1 (is 2 0 ∷ []))) × IsPlain (understood station_schema withdraw_text)
unfolding understood everything
withdraw_is = (refl, (refl, refl))

abbrev pub agree_text : List ℕ
agree_text = codes "INSERT INTO agreement (at, partner, functional, lenient, setid) VALUES (?1, ?2, ?3, ?4, ?5)"

abbrev pub agree_terms : List Term
agree_terms = col 0 0 ∷ lit Null ∷ col 0 1 ∷ col 0 2 ∷ col 0 3 ∷ col 0 4 ∷ []

pub agree_is : (command_of (understood station_schema agree_text) ≡ Insert 1 (Values agree_terms 6)) × IsPlain (understood station_schema agree_text)
unfolding understood everything
agree_is = (refl, (refl, refl))

abbrev pub submit_text : List ℕ
submit_text = codes "INSERT INTO outbound (icn, seq, partner, bytes) VALUES (?1, ?2, ?3, ?4)"

abbrev pub submit_terms : List Term
submit_terms = col 0 0 ∷ lit Null ∷ col 0 1 ∷ col 0 2 ∷ col 0 3 ∷ []

pub submit_is : (command_of (understood station_schema submit_text) ≡ Insert 2 (Values submit_terms 5)) × IsPlain (understood station_schema submit_text)
unfolding understood everything
submit_is = (refl, (refl, refl))

abbrev pub enter_set_text : List ℕ
enter_set_text = codes "INSERT INTO outset (at, icn, grp, place, gcn, fate, functional, number) VALUES (?1, ?2, ?3, ?4, ?5, ?6, ?7, ?8)"

abbrev pub enter_set_terms : List Term
enter_set_terms = col 0 0 ∷ lit Null ∷ col 0 1 ∷ col 0 2 ∷ col 0 3 ∷ col 0 4 ∷ col 0 6 ∷ col 0 7 ∷ col 0 5 ∷ []

pub enter_set_is : (command_of (understood station_schema enter_set_text) ≡ Insert 3 (Values enter_set_terms 9)) × IsPlain (understood station_schema enter_set_text)
unfolding understood everything
enter_set_is = (refl, (refl, refl))

abbrev pub settle_text : List ℕ
settle_text = codes "UPDATE outset SET fate = ?4 WHERE icn = ?1 AND grp = ?2 AND place = ?3"

abbrev pub settle_wheres : List Term
settle_wheres = is 2 0 ∷ is 3 1 ∷ is 4 2 ∷ []

abbrev pub settle_shows : List Term
settle_shows = col 1 0 ∷ col 1 0 ∷ lit Null ∷ col 1 2 ∷ col 1 3 ∷ col 1 4 ∷ col 1 5 ∷ col 1 6 ∷ col 1 7 ∷ col 0 3 ∷ []

pub settle_is : (command_of (understood station_schema settle_text) ≡ Update 3 (record { lets = []; body = one_table 4 settle_wheres settle_shows [] })) × IsPlain (understood station_schema settle_text)
unfolding understood everything
settle_is = (refl, (refl, refl))

abbrev pub file_text : List ℕ
file_text = codes "INSERT INTO inbound (seq, icn, partner, reply, bytes) VALUES (?1, ?2, ?3, ?4, ?5)"

abbrev pub file_terms : List Term
file_terms = col 0 0 ∷ lit Null ∷ col 0 2 ∷ col 0 1 ∷ col 0 3 ∷ col 0 4 ∷ []

pub file_is : (command_of (understood station_schema file_text) ≡ Insert 4 (Values file_terms 6)) × IsPlain (understood station_schema file_text)
unfolding understood everything
file_is = (refl, (refl, refl))

abbrev pub post_text : List ℕ
post_text = codes "INSERT INTO posting (at, icn, grp, place, partner, functional, setid, number, bytes) VALUES (?1, ?2, ?3, ?4, ?5, ?6, ?7, ?8, ?9)"

abbrev pub post_terms : List Term
post_terms = col 0 0 ∷ lit Null ∷ col 0 4 ∷ col 0 1 ∷ col 0 2 ∷ col 0 3 ∷ col 0 5 ∷ col 0 6 ∷ col 0 7 ∷ col 0 8 ∷ []

pub post_is : (command_of (understood station_schema post_text) ≡ Insert 5 (Values post_terms 10)) × IsPlain (understood station_schema post_text)
unfolding understood everything
post_is = (refl, (refl, refl))
