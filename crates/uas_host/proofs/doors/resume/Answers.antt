use Rattle.std.proofs.Common.{ℕ, ◌+◌, ◌*◌, ◌++◌, ◌∷◌, [], ◌∙◌, arith, ap, subst, sym, append-nil, refl}
use Rattle.uas_profile.specs.declared.TheConstants.{STREAMS}
use Rattle.stream_array.specs.Rings.{HasPending, LinesState, NonePendingOn, ring_of}
use Rattle.uas_host.proofs.Resuming.{doors_below-last, doors_below-next, doors_below-none, ring-last}
use Rattle.uas_host.proofs.doors.resume.Goals as goal

pub loop-stream-init : goal.loop-stream-init
loop-stream-init c = record {
  lines = refl;
  first = omega arith;
  last = omega arith;
  doors = sym (ap (λ doors. c.args.doors.now.items ++ doors) (doors_below-none c.args.lines.now c.args.pipe) ∙ append-nil c.args.doors.now.items);
  most = omega arith;
}

pub loop-stream-preserved : goal.loop-stream-preserved
loop-stream-preserved c =
    let so_far = c.loop-stream.invariant in
    let next = c.in-Some.ensures.next in
    let last = ring-last c.args.pipe c.in-Some.stream c.requires.streams next.1 in
    let Due : LinesState → Type 0 = λ l. HasPending (ring_of l c.args.pipe c.in-Some.stream) in
    let Passed : LinesState → Type 0 = λ l. NonePendingOn l c.args.pipe c.loop-stream.from c.in-Some.stream in
    let rung = c.push.ensures.items
    ∙ ap (λ (one : ℕ). c.loop-stream.doors.items ++ one ∷ [])
    (c.doorbell.ensures ∙ ap (λ (target : ℕ). target + 65536 * c.in-Some.stream) c.target.ensures.target) in
    record {
      lines = c.next_pending.ensures.kept ∙ so_far.lines;
      first = omega arith;
      last = omega (arith, last);
      doors = doors_below-next c.args.lines.now c.args.pipe c.loop-stream.from c.in-Some.stream c.args.doors.now.items c.loop-stream.doors.items
          c.push.new.self.items c.requires.streams so_far.first next.0 last (subst Passed so_far.lines next.3) (subst Due so_far.lines next.2)
          so_far.doors rung;
      most = omega (arith, c.push.ensures.len, so_far.most, next.0);
    }

pub returns-clause-doors : goal.returns-clause-doors
returns-clause-doors c =
    let so_far = c.loop-stream.invariant in
    let Passed : LinesState → Type 0 = λ l. NonePendingOn l c.args.pipe c.loop-stream.from (STREAMS + 1) in
    doors_below-last c.args.lines.now c.args.pipe c.loop-stream.from c.args.doors.now.items c.loop-stream.doors.items c.requires.streams
    so_far.first so_far.last (subst Passed so_far.lines c.in_default.ensures.none) so_far.doors
