-- All that a traced run prints, with what waited until its end.
use Rattle.std.proofs.Common.{◌≡◌, ◌∙◌, ℕ, List, [], ◌++◌, Option, Some, None, fold, refl, ap, subst, append-nil}
use Rattle.std.specs.Prelude.{IsSome}
use Rattle.std.specs.Io.KnownBytes.{Appends}
use Rattle.block_unit.specs.BlockMaps.{BlockMaps}
use Rattle.uas_script.specs.declared.Line.{Line}
use Rattle.uas_replay.specs.Told.{drained_run, opening_run, told_line}
use Rattle.uas_replay.specs.Moments.{moments_of, whole_moments}
use Rattle.uas_replay.specs.Walks.{Walk, Moment, Shows, opening_walk, shown_along}
use Rattle.uas_trace.specs.Traced.{with_waiting}
use Rattle.uas_trace.specs.Texts.{TracesAll, step_text, traced_text}

-- what waited is written
written_there : (first between after : Option (List ℕ)) (waiting shown : List ℕ) → Appends (with_waiting first []) (with_waiting between waiting) shown
    → Appends between after waiting → Appends first after shown
written_there None between after waiting shown one two = tt
written_there (Some bytes) None after waiting shown one two = absurd one
written_there (Some bytes) (Some more) None waiting shown one two = absurd two
written_there (Some bytes) (Some more) (Some all) waiting shown one two = two ∙ one ∙ ap (λ (b : List ℕ). b ++ shown) (append-nil bytes)

known_waiting : (bytes : Option (List ℕ)) → IsSome bytes → IsSome (with_waiting bytes [])
known_waiting None known = known
known_waiting (Some bytes) known = refl

written_all : (moments : List Moment) (old new : Walk) (first between after : Option (List ℕ)) (waiting : List ℕ)
    → Shows step_text moments old new (with_waiting first []) (with_waiting between waiting) → Appends between after waiting
    → Shows step_text moments old new first after
written_all moments old new first between after waiting shows rest = record {
  known = λ known.
      let all = shows.known (known_waiting first known) in
      record {
        leads = all.leads;
        shown = written_there first between after waiting (shown_along step_text old moments) all.shown rest;
      };
}

-- what is shown was added, where the bytes before it are known
all_added : (moments : List Moment) (old new : Walk) (first after : Option (List ℕ)) → Shows step_text moments old new first after
    → Appends first after (shown_along step_text old moments)
all_added moments old new None after shows = tt
all_added moments old new (Some bytes) after shows = (shows.known refl).shown

pub traces_all : (tags : ℕ) (units : List BlockMaps) (lines : List Line) (old new : Walk) (first between after : Option (List ℕ)) (waiting : List ℕ)
    → old ≡ opening_walk tags units → new.telling ≡ drained_run (fold told_line old.telling lines)
    → Shows step_text (whole_moments old.telling lines) old new (with_waiting first []) (with_waiting between waiting) → Appends between after waiting
    → TracesAll tags units lines first after
unfolding traced_text
traces_all tags units lines old new first between after waiting opening told shown rest =
    let all : Shows step_text (whole_moments (opening_run tags units) lines) (opening_walk tags units) new first after =
    subst (λ (w : Walk). Shows step_text (whole_moments w.telling lines) w new first after) opening
    (written_all (whole_moments old.telling lines) old new first between after waiting shown rest) in
    record {
      added = all_added (moments_of tags units lines) (opening_walk tags units) new first after all;
      told = λ known.
          ap (λ (w : Walk). w.telling) (all.known known).leads ∙ told ∙ ap (λ (w : Walk). drained_run (fold told_line w.telling lines)) opening;
    }
