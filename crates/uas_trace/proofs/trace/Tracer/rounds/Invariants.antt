use Rattle.std.proofs.Common.{◌≡◌, suc}
use Rattle.shared_machine.specs.Drain.{rounds, drained}
use Rattle.uas_replay.specs.Moments.{drain_moments, rounds_moments}
use Rattle.uas_replay.proofs.Shown.{ShowsSoFar}
use Rattle.uas_trace.specs.Texts.{step_text}
use Rattle.uas_trace.specs.Traced.{with_waiting}
use Rattle.uas_trace.proofs.trace.Tracer.rounds.Given as goal

-- the rounds that are left lead to the drain's end
abbrev pub invariant-loop-after : goal.invariant-loop-after
invariant-loop-after g l = record {
  machine : rounds (suc l.more) (l.run.telling.machine, l.left) ≡ drained l.initial.run.telling.machine l.limit;
  rest : l.run.telling ≡ record l.initial.run.telling { machine = l.run.telling.machine };
  shown : ShowsSoFar step_text (drain_moments l.initial.run.telling.machine l.limit) (rounds_moments (suc l.more) (l.run.telling.machine, l.left))
      l.initial.run l.run (with_waiting (g.O.Sink.written l.initial.writer) l.initial.self.waiting.items)
      (with_waiting (g.O.Sink.written l.writer) l.self.waiting.items);
  same : g.O.Sink.can_fail l.writer ≡ g.O.Sink.can_fail l.fn.writer;
}

abbrev pub decreases-loop-after : goal.decreases-loop-after
decreases-loop-after g l = l.more
