-- A SELECT is a query, whatever the tables are.
use Rattle.std.proofs.Common.{◌≡◌, ◌∙◌, ℕ, List, [], true, false, if◌then◌else◌, Option, Some, None, Ok, Err, Result, IfOk, refl}
use Rattle.sqlite.specs.Listing.{understood, reads_listing, listing_schema, if_select, is_select}
use Rattle.sqlite.specs.Schema.{Schema}
use Rattle.sqlite_resolve.specs.Compile.{first, returning, timed, compiled, planned, meaning, with_command}
use Rattle.sqlite_resolve.specs.Lowering.{and_then}
use Rattle.sqlite_resolve.specs.declared.compiled.Compiled.{Compiled}
use Rattle.sqlite_resolve.specs.declared.error.CompileError.{CompileError}
use Rattle.sqlite_resolve.specs.declared.error.CompileError.TheVariants.{NoSuchTable}
use Rattle.sqlite_schema.specs.declared.command.Command.{Command}
use Rattle.sqlite_schema.specs.declared.command.Returning.{Returning}
use Rattle.sql_rows.specs.Query.{IsQuery}

abbrev Asks : Compiled → Type 0
Asks c = (c.returning ≡ None) × (c.formats ≡ [])

-- as it is written, the statement has no RETURNING and no time, whatever the tables are
abbrev pub IsSelect : List ℕ → Type 0
IsSelect sql = IfOk (first sql) (λ p. ((s : Schema) (base : ℕ) → returning s base p.statement ≡ Ok None) × ((s : Schema) → timed s p.formats p.statement ≡ []))

-- what is put together of no RETURNING and no format
put_together : (f : List (List ℕ) × (Command × Option Returning) → Compiled) → ((x : List (List ℕ) × (Command × Option Returning)) → ((f x).returning ≡ x.1.1) × ((f x).formats ≡ x.0))
    → (formats : List (List ℕ)) (shown : Result (Option Returning) CompileError) (command : Result Command CompileError) → shown ≡ Ok None → formats ≡ []
    → IfOk (and_then (and_then (and_then shown (λ x. and_then command (λ c. Ok (c, x)))) (λ found. Ok (formats, found))) (λ plan. Ok (f plan))) Asks
put_together f are formats (Ok None) (Ok c) nothing none = let it = are (formats, (c, None)) in (it.0, it.1 ∙ none)
put_together f are formats (Ok None) (Err e) nothing none = tt
put_together f are formats (Ok (Some r)) command nothing none = absurd (cc)
put_together f are formats (Err e) command nothing none = absurd (cc)

compiled_asks : (sql : List ℕ) (s : Schema) → IsSelect sql → IfOk (compiled s sql) Asks
unfolding compiled planned meaning
compiled_asks sql s = elim (first sql) as (λ r. IfOk r (λ p. ((s : Schema) (base : ℕ) → returning s base p.statement ≡ Ok None) × ((s : Schema) → timed s p.formats p.statement ≡ []))
    → IfOk (and_then r (λ p. and_then (planned s p) (λ plan. Ok (with_command p plan)))) Asks)
    [ Ok p ↦ λ h. put_together (with_command p) (λ x. (refl, refl)) (timed s p.formats p.statement) _ _ (h.0 s _) (h.1 s) | Err e ↦ λ h. tt ]

listed_asks : (r : Result Compiled CompileError) → IfOk r Asks → IfOk (if_select r) Asks
listed_asks (Err e) h = tt
listed_asks (Ok c) h = elim (is_select c.command) as (λ b. IfOk (if b then Ok c else Err NoSuchTable) Asks) [ true ↦ h | false ↦ tt ]

pub select_asks : (sql : List ℕ) → IsSelect sql → IsQuery sql
unfolding understood
select_asks sql h s = elim (reads_listing s sql) as (λ b. IfOk (if b then if_select (compiled listing_schema sql) else compiled s sql) Asks) [ true ↦ listed_asks (compiled listing_schema sql) (compiled_asks sql listing_schema h) | false ↦ compiled_asks sql s h ]
