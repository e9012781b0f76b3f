use Rattle.std.proofs.Common.{◌≡◌, Err, get_or, sym, subst, rules}
use Rattle.slot_map.specs.Table.{Endpoint}
use Rattle.program_words.specs.Endpoints.{endpoints_of}
use Rattle.program_words.specs.SeedTable.{IsTableOf}
use Rattle.program_words.proofs.SeedTables.{at_of, refused}
use Rattle.program_words.proofs.seeds.seed_table.Goals as goal

pub returns-in_err-intern : goal.returns-in_err-intern
returns-in_err-intern c =
    let why = c.in_err-intern.field-0.0 in
    let is : c.from_residual.result ≡ Err why = search rules in
    let at : Endpoint = record { host = c.as_bytes.result.now; port = c.seed-item.result.port } in
    let place : at ≡ at_of (get_or c.args.seeds.now c.loop-seed.seed-index c.seed-item.result) = search rules in
    subst (λ r. IsTableOf (endpoints_of c.args.seeds.now) r) (sym is)
    (refused why c.args.seeds.now c.loop-seed.seed-index c.seed-item.result at c.loop-seed.table _ c.loop-seed-test.true place c.loop-seed.invariant c.in_err-intern.ensures.interns)
