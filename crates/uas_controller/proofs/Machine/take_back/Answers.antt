use Rattle.std.proofs.Common.{◌≡◌, ℕ, true, nat_lt, List, Err, length, sym, ap, ◌∙◌, arith}
use Rattle.std.proofs.lemmas.Bool.{lt-ltb}
use Rattle.frame_store.specs.declared.TagBuffers.{TagBuffers}
use Rattle.stream_array.specs.Contexts.{has_stream}
use Rattle.uas_controller.specs.declared.Refusal.TheVariants.{TooLong}
use Rattle.uas_controller.specs.Calls.{After}
use Rattle.uas_controller.proofs.Loans.{HasBuffers, has_stream-is, lent-after, lent-fits}
use Rattle.uas_controller.proofs.Machine.take_back.Goals as goal

pub lend-requires-clause-fits : goal.lend-requires-clause-fits
lend-requires-clause-fits c =
    let has : HasBuffers c.args.tag = has_stream-is c.args.tag (sym c.has_stream.ensures ∙ c.if-not-has_stream.false) in
    omega (arith, lent-fits c.self.inside.frames c.args.tag c.in-Ok.bytes.items c.whole.ensures has c.in-Ok.ensures.back, c.in-Ok.bytes.ok.0)

pub returns-clause-back : goal.returns-clause-back
returns-clause-back c =
    let inside = c.self.inside in
    let bytes = c.in-Ok.bytes.items in
    let is : has_stream c.args.tag ≡ true = sym c.has_stream.ensures ∙ c.if-not-has_stream.false in
    let long : nat_lt c.args.most (length bytes) ≡ true = lt-ltb c.args.most (length bytes) (omega (arith, c.in-Ok.bytes.ok.0)) in
    let same : c.lend.new.self ≡ inside.frames =
    lent-after inside.frames c.take_back.new.self c.lend.new.self c.args.tag bytes c.lend.result c.whole.ensures (has_stream-is c.args.tag is)
    c.in-Ok.ensures.back c.in-Ok.ensures.taken c.lend.ensures.already c.lend.ensures.lent in
    let too_long : List TagBuffers → After (List ℕ) =
    λ frames. (record { lines = inside.lines; frames = frames; controller = inside.controller; device = inside.target }, Err TooLong) in
    rw (← c.self.view_is, is, c.in-Ok.ensures.back, long) (ap too_long (sym same))
