use Rattle.std.proofs.Common.{◌∙◌, refl, sym}
use Rattle.resp_wire.specs.Seen.{data_of}
use Rattle.turn_play.proofs.FirstValues.{no-words, words-are}
use Rattle.turn_play.proofs.first_words.words_in.Goals as goal

pub returns-then-not-is_request : goal.returns-then-not-is_request
returns-then-not-is_request c = no-words (data_of c.args.value) (sym c.is_request.ensures ∙ c.if-not-is_request.true)

pub returns-in-Ok : goal.returns-in-Ok
returns-in-Ok c = (words-are (data_of c.args.value) c.in-Ok.words c.in-Ok.ensures.ok, refl)
