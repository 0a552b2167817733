use Rattle.std.proofs.Common.{◌≡◌, ◌-◌, map}
use Rattle.std.specs.List.{range_with_len}
use Rattle.bus_core.proofs.drain.DrainTags.{HasTried}
use Rattle.uas_replay.specs.Walks.{Shows}
use Rattle.uas_replay.specs.Moments.{tried_moments}
use Rattle.uas_trace.specs.Texts.{step_text}
use Rattle.uas_trace.specs.Traced.{step_of_tag, with_waiting}
use Rattle.uas_trace.proofs.trace.Tracer.try_tags.Given as goal
use Rattle.shared_machine.specs.Shared.{greatest_tag}

-- the tags up to the last that was tried; nothing else of the run changed
abbrev pub invariant-loop-next : goal.invariant-loop-next
invariant-loop-next g l = record {
  tags : HasTried (step_of_tag l.kind) (l.initial.run.telling.machine, l.initial.left) (l.run.telling.machine, l.left) l.tag;
  rest : l.run.telling ≡ record l.initial.run.telling { machine = l.run.telling.machine };
  shown : Shows step_text (tried_moments (l.initial.run.telling.machine, l.initial.left) (map (step_of_tag l.kind) (range_with_len 1 l.tag)))
      l.initial.run l.run (with_waiting (g.O.Sink.written l.initial.writer) l.initial.self.waiting.items)
      (with_waiting (g.O.Sink.written l.writer) l.self.waiting.items);
  same : g.O.Sink.can_fail l.writer ≡ g.O.Sink.can_fail l.fn.writer;
}

abbrev pub decreases-loop-next : goal.decreases-loop-next
decreases-loop-next g l = greatest_tag l.run.telling.machine - l.tag
