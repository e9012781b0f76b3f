-- The output goes by the end of each part, in whatever list they stand.
use Rattle.std.proofs.Common.{◌≡◌, ◌+◌, ◌∷◌, [], List, ℕ, zero, suc, refl, ap, sym, subst, Option, Some, None, Bool}
use Rattle.std.specs.Prelude.{map, option_map}
use mathlib.Core.List.{IsPrefix}
use Rattle.resp_wire.specs.declared.value.Value.{Value}
use Rattle.key_split.specs.declared.travel.Ticket.{Ticket}
use Rattle.key_split.specs.declared.travel.Ended.{Ended}
use Rattle.session_order.specs.declared.replies.PendingReply.{PendingReply}
use Rattle.session_order.specs.declared.replies.PendingReply.TheVariants.{Reply, Parts}
use Rattle.session_order.specs.PendingReply.{owed_for}
use Rattle.session_order.specs.Replies.{bytes_of, lines_owed}
use Rattle.session_order.specs.Output.{end_of, ends_from, replies_told, output_of, until_quit}
use Rattle.session_order.proofs.Told.{after}
use Rattle.turn_laws.specs.Pipelines.{requests_of}
use Rattle.turn_laws.specs.LogOutput.{EndsDecide}

abbrev both_ends : Option Ended → Option (List Ended) → Option (List Ended)
both_ends first others = elim first [ Some end ↦ option_map (λ ends. end ∷ ends) others | None ↦ None ]

module _ (a b : List (Ticket × Ended)) (same : (part : ℕ) → end_of a part ≡ end_of b part) where
  ends-same : (n m : ℕ) → ends_from a n m ≡ ends_from b n m
  ends-same n zero = refl
  ends-same n (suc m) = let rest = ends-same (suc n) m in λ i. both_ends (same n i) (rest i)

  replies-same : (n : ℕ) (owed : List PendingReply) (last : List Value) → replies_told a n owed last ≡ replies_told b n owed last
  replies-same n [] last = refl
  replies-same n (Reply value ∷ owed) last = ap (λ vs. value ∷ vs) (replies-same n owed last)
  replies-same n (Parts how m ∷ owed) last = let ends = ends-same n m in let rest = replies-same (n + m) owed last in λ i. after (ends i) how (rest i)

  output-same : (read : List (List (List ℕ))) (faulted : Bool) → output_of read a faulted ≡ output_of read b faulted
  output-same read faulted = ap bytes_of (replies-same 0 (map owed_for (until_quit read)) (lines_owed faulted))

module _ (C J : Type 0) where
  pub ends-decide : EndsDecide C J
  ends-decide law s s' events start steps k number ends same =
      let written = law s s' events start steps k number in
      (written.0, subst (IsPrefix _) (sym (output-same ends _ same (requests_of (written.0).values) (written.0).faulted)) written.1)
