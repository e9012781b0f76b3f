use Rattle.std.proofs.Common.{◌≡◌, subst, rules, Ok, Err}
use Rattle.key_split.specs.PartModel.{PartModel}
use Rattle.node_model.specs.Serving.{Serves}
use Rattle.node_model.specs.declared.role.ServeFault.TheVariants.{NoMemory}
use Rattle.node_model.specs.declared.role.Verdict.TheVariants.{Plain}
use Rattle.local_cluster.proofs.Twice.{copy-refused, told-refused, twice-told}
use Rattle.local_cluster.proofs.foresight.serve_twice.Goals as goal

pub returns-in_err-copy : goal.returns-in_err-copy
returns-in_err-copy c =
    let read = subst (λ (p : PartModel). Serves c.args.cluster.now c.args.batch.now.node c.args.asking p Plain (Ok c.in_ok-found.found) c.serve.new.self) c.in_ok-reading.ensures c.in_ok-found.ensures in
    let result : c.from_residual-in_err-copy.result ≡ Err NoMemory = search rules in
    rw result (copy-refused c.mget_reads.ensures c.args.cluster.now c.serve.new.self c.args.batch.now c.args.asking c.in_ok-found.found c.requires read)

pub returns-in_err-told : goal.returns-in_err-told
returns-in_err-told c =
    let read = subst (λ (p : PartModel). Serves c.args.cluster.now c.args.batch.now.node c.args.asking p Plain (Ok c.in_ok-found.found) c.serve.new.self) c.in_ok-reading.ensures c.in_ok-found.ensures in
    let result : c.from_residual-in_err-told.result ≡ Err c.in_err-told.field-0.0 = search rules in
    rw result (told-refused c.mget_reads.ensures c.args.cluster.now c.serve.new.self c.serve-2.new.self c.args.batch.now c.args.asking c.in_ok-found.found c.in_err-told.field-0.0 read c.in_err-told.ensures)

pub returns : goal.returns
returns c =
    let read = subst (λ (p : PartModel). Serves c.args.cluster.now c.args.batch.now.node c.args.asking p Plain (Ok c.in_ok-found.found) c.serve.new.self) c.in_ok-reading.ensures c.in_ok-found.ensures in
    twice-told c.mget_reads.ensures c.args.cluster.now c.serve.new.self c.serve-2.new.self c.args.batch.now c.args.asking c.in_ok-found.found c.in_ok-told.told c.in_ok-copy.copy read c.in_ok-copy.ensures c.in_ok-told.ensures
