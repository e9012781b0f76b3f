use Rattle.std.proofs.Common.{◌≡◌, ℕ, List, IfOk, subst}
use Rattle.node_dial.proofs.CredentialLemmas.{user_said}
use Rattle.node_dial.proofs.credentials.Credentials.of_user.Goals as goal

pub returns : goal.returns
returns c =
    let said = user_said c.new-request.result.items c.extend_from_slice.new.self.items c.push_word.new.request.items c.args.user.now c.args.password.now
    c.new-request.ensures.items c.in_ok-extend_from_slice.ensures.items c.in_ok-push_word.ensures in
    subst (λ (bytes : List ℕ). IfOk c.with_password.result (λ credentials. credentials ≡ bytes)) said c.with_password.ensures
