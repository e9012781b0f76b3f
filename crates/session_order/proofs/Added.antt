-- What is held when one more request is added.
use Rattle.std.proofs.Common.{◌≡◌, ◌<◌, ◌+◌, ◌++◌, ◌∷◌, [], ◌∙◌, List, ℕ, arith, length, length-append, map, replicate}
use Rattle.std.proofs.lemmas.List.{length-map, length-replicate}
use Rattle.resp_wire.specs.declared.value.Value.{Value}
use Rattle.key_split.specs.declared.planned.Joining.{Joining}
use Rattle.key_split.specs.declared.travel.Ended.{Ended}
use Rattle.key_split.specs.declared.travel.Ended.TheVariants.{Lost}
use Rattle.key_split.specs.Join.{CanJoin}
use Rattle.key_split.specs.PartModel.{PartModel}
use Rattle.session_order.specs.declared.replies.PendingReply.{PendingReply}
use Rattle.session_order.specs.declared.replies.PendingReply.TheVariants.{Reply, Parts}
use Rattle.session_order.specs.declared.closing.Closing.{Closing}
use Rattle.session_order.specs.declared.queue.PartStage.TheVariants.{Waiting}
use Rattle.session_order.specs.Replies.{parts_of, AreJoinable}
use Rattle.session_order.specs.RequestReaderModel.{RequestReaderModel}
use Rattle.session_order.specs.Sound.{IsSoundSession}
use Rattle.session_order.specs.Turn.{QueueModel}

pub parts_of_push : (requests : List PendingReply) (last : PendingReply) → parts_of (requests ++ last ∷ []) ≡ parts_of requests + parts_of (last ∷ [])
parts_of_push [] last = omega arith
parts_of_push (Reply value ∷ rs) last = parts_of_push rs last
parts_of_push (Parts how n ∷ rs) last = omega (arith, parts_of_push rs last)

pub joinable_push : (requests : List PendingReply) (last : PendingReply) → AreJoinable requests → AreJoinable (last ∷ []) → AreJoinable (requests ++ last ∷ [])
joinable_push [] last all one = one
joinable_push (Reply value ∷ rs) last all one = joinable_push rs last all one
joinable_push (Parts how n ∷ rs) last all one = (all.0, joinable_push rs last all.1 one)

pub sound_reply : (incoming : RequestReaderModel) (requests more : List PendingReply) (queue : QueueModel) (ends : List Ended) (closing : Closing) (value : Value)
    → IsSoundSession incoming requests queue ends closing → length requests < 1024 → more ≡ requests ++ Reply value ∷ [] → IsSoundSession incoming more queue ends closing
sound_reply incoming requests more queue ends closing value sound few is = rw is (record {
  due = record {
    counted = parts_of_push requests (Reply value) ∙ omega (arith, sound.due.counted);
    places = sound.due.places;
    joinable = joinable_push requests (Reply value) sound.due.joinable tt;
  };
  few = omega (arith, few, length-append requests (Reply value ∷ []));
  faultless = sound.faultless;
})

pub sound_parts : (incoming : RequestReaderModel) (requests more : List PendingReply) (queue queue' : QueueModel) (ends ends' : List Ended) (closing : Closing) (how : Joining) (parts : List PartModel) (count : ℕ)
    → IsSoundSession incoming requests queue ends closing → length requests < 1024 → CanJoin how (length parts) → count ≡ length parts
    → more ≡ requests ++ Parts how count ∷ [] → queue' ≡ record queue { stages = queue.stages ++ map Waiting parts } → ends' ≡ ends ++ replicate count Lost
    → IsSoundSession incoming more queue' ends' closing
sound_parts incoming requests more queue queue' ends ends' closing how parts count sound few can counted more_is queue_is ends_is =
    let waiting : length (map Waiting parts) ≡ length parts = length-map parts _ in
    rw (more_is, queue_is, ends_is) (record {
      due = record {
        counted = parts_of_push requests (Parts how count) ∙ omega (arith, sound.due.counted, counted, length-append queue.stages (map Waiting parts), waiting);
        places = omega (arith, sound.due.places, counted, length-append ends (replicate count Lost), length-replicate count Lost, length-append queue.stages (map Waiting parts), waiting);
        joinable = joinable_push requests (Parts how count) sound.due.joinable (rw counted can, tt);
      };
      few = omega (arith, few, length-append requests (Parts how count ∷ []));
      faultless = sound.faultless;
    })
