-- What both parts of an audit come to.
use Rattle.std.proofs.Common.{◌≡◌, ℕ, zero, suc, ◌<◌, List, [], ◌∷◌, filter, map, length, Option, Some, refl, arith, ap, sym, subst, ◌∙◌}
use Rattle.std.specs.Prelude.{slice_get}
use Rattle.std.proofs.lemmas.List.{length-map}
use Rattle.std.proofs.lemmas.Option.{some_pair_parts}
use Rattle.block_unit.specs.BlockMaps.{BlockMaps}
use Rattle.scsi_cmd.specs.declared.Reply.{Reply}
use Rattle.solo_model.specs.Solo.{SoloState}
use Rattle.shared_machine.specs.declared.Step.{Step}
use Rattle.machine_invariant.proofs.MatchedOpening.{opening-matched}
use Rattle.isolation.specs.Isolation.{own_replies, own_state, renumbered}
use Rattle.isolation.proofs.FirstBlocks.{replay-solo}
use Rattle.uas_log.specs.declared.Log.{Log}
use Rattle.uas_log.specs.Booking.{IsReplay, first_maps, first_units, log_opening, log_replay}
use Rattle.log_audit.specs.Audit.{AreSolos, IsAudited, IsBeginning, is_taken_by, submissions_of}
use Rattle.log_audit.proofs.Owned.{filter-own, own_replies-taken, replies_of-tags, same-replies}
use Rattle.log_audit.proofs.Tagged.{AllTagged, replayed-tagged}

-- the client's own replies of a true log, by their tags
taken-own : (log : Log) (client : ℕ) → IsReplay log
    → own_replies log.tags client (log_replay log).1 ≡ map (renumbered log.tags client) (filter (is_taken_by log.tags client) log.replies)
taken-own log client it =
    own_replies-taken log.tags client (log_replay log).1 (replayed-tagged log.tags (log_opening log) log.steps refl (opening-matched log.tags (first_units log) it.tags))
    ∙ ap (λ replies. map (renumbered log.tags client) (filter (is_taken_by log.tags client) replies)) (sym it.replies)

-- THE SOLO MACHINE'S

-- they are the solo machine's
pub taken-solos : (log : Log) (client : ℕ) (unit : BlockMaps) → IsReplay log → slice_get (first_units log) client ≡ Some unit
    → AreSolos log client (map (renumbered log.tags client) (filter (is_taken_by log.tags client) log.replies))
taken-solos log client unit it there = record {
  unit = unit;
  there = there;
  last = own_state (log_replay log).0 client;
  run = replay-solo log.tags (first_units log) log.steps client unit there
      ∙ ap (λ replies. Some (own_state (log_replay log).0 client, replies)) (taken-own log client it);
}

-- and only they are
pub solos-taken : (log : Log) (client : ℕ) (replies : List Reply) → IsReplay log → AreSolos log client (map (renumbered log.tags client) replies)
    → filter (is_taken_by log.tags client) log.replies ≡ replies
solos-taken log client replies it solos =
    let both : ◌≡◌ {A = Option (SoloState × List Reply)}
    (Some (solos.last, map (renumbered log.tags client) replies))
    (Some (own_state (log_replay log).0 client, own_replies log.tags client (log_replay log).1)) =
    sym solos.run ∙ replay-solo log.tags (first_units log) log.steps client solos.unit solos.there in
    let same = (some_pair_parts _ _ _ _ both).1 ∙ taken-own log client it in
    let tagged : AllTagged log.tags (log_replay log).1 = replayed-tagged log.tags (log_opening log) log.steps refl (opening-matched log.tags (first_units log) it.tags) in
    sym (same-replies log.tags client (filter (is_taken_by log.tags client) log.replies) replies
    (filter-own log.tags client log.replies (rw it.replies (replies_of-tags log.tags (log_replay log).1 tagged))) same)

-- BOTH

-- a client of the log has a first unit
there-is : {X : Type 0} (xs : List X) (k : ℕ) → k < length xs → (x : X) × (slice_get xs k ≡ Some x)
there-is [] k within = absurd (omega arith)
there-is (x ∷ xs) zero within = (x, refl)
there-is (x ∷ xs) (suc k) within = there-is xs k (omega arith)

pub audited : (log : Log) (client : ℕ) (sent : List Step) (replies : List Reply) → IsReplay log → client < length log.units
    → IsBeginning (submissions_of client log.steps) sent → filter (is_taken_by log.tags client) log.replies ≡ replies → IsAudited log client sent replies
audited log client sent replies it within begins took =
    let unit = there-is (first_units log) client (omega (arith, length-map log.units first_maps)) in
    record { asked = begins; told = subst (λ list. AreSolos log client (map (renumbered log.tags client) list)) took (taken-solos log client unit.0 it unit.1) }
