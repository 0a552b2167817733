use Rattle.std.proofs.Common.{◌≡◌, ℕ, ◌++◌, false, List, length, rules, arith, ap, sym, subst, ◌∙◌}
use Rattle.std.specs.Io.KnownBytes.{Consumes}
use Rattle.std.proofs.lemmas.List.{length-append}
use Rattle.kept_log.specs.Parts.{Reads}
use Rattle.kept_log.proofs.Seen.{reads_on, shown_of}
use Rattle.kept_log.proofs.window.read_at_least.Goals as goal

pub loop-chunk-preserved : goal.loop-chunk-preserved
loop-chunk-preserved g c =
    let l = c.loop-chunk in
    let left = g.S.Source.left in
    let all : List ℕ = c.extend_from_slice.new.self.items in
    let more : List ℕ = c.front-more.result.now in
    let grown : all ≡ l.bytes.items ++ more = search rules in
    let consumed : Consumes (left l.source) (left c.read.new.self) more =
    subst (λ (bytes : List ℕ). Consumes (left l.source) (left c.read.new.self) bytes) (sym c.front-more.ensures.front) c.in-Ok.ensures.bytes.0 in
    let read : Reads (left l.source) (left c.read.new.self) l.bytes.items (shown_of all false) =
    record { more = more; are = c.front-more.ensures.are; consumed = consumed; window_is = grown; ended = λ e. absurd cc } in
    record {
      read = reads_on (left c.args.source.now) (left l.source) (left c.read.new.self) c.args.bytes.now.items (shown_of l.bytes.items false) (shown_of all false)
          l.invariant.read read;
      grown = omega (arith, l.invariant.grown, ap length grown, length-append l.bytes.items more);
      there = λ some. sym l.invariant.stays ∙ c.in-Ok.ensures.there;
      same = c.read.ensures.same ∙ l.invariant.same;
      stays = c.read.ensures.stays ∙ l.invariant.stays;
    }
