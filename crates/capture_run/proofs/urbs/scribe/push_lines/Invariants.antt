use Rattle.std.proofs.Common.{◌≡◌, map, fold, drop}
use Rattle.capture_run.specs.urbs.Records.{first_writing, with_line}
use Rattle.capture_run.proofs.urbs.scribe.push_lines.Given as goal

abbrev pub invariant-loop-line : goal.invariant-loop-line
invariant-loop-line l =
    fold (with_line l.transfers) (l.scribe, l.capture.items) (map (λ line. line.now) (drop l.line-index l.lines))
    ≡ fold (with_line l.transfers) (first_writing, l.fn.capture.items) (map (λ line. line.now) l.lines)
