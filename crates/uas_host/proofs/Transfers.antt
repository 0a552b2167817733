-- What the host makes of a transfer event that it waits for.
use Rattle.std.proofs.Common.{◌≡◌, ℕ, ◌-◌, Bool, true, false, List, take, drop, Option, Some, None, MatchOption, refl, sym, ◌∙◌}
use Rattle.std.specs.Prelude.{option_map}
use Rattle.std.proofs.lemmas.Bool.{false≢true}
use Rattle.uas_profile.specs.declared.TheConstants.{STATUS_BYTES}
use Rattle.stream_array.specs.Rings.{LinesState}
use Rattle.frame_store.specs.declared.TagBuffers.{TagBuffers}
use Rattle.frame_store.specs.Buffers.{held_for}
use Rattle.uas_host.specs.declared.EndedTd.{EndedTd}
use Rattle.uas_host.specs.declared.Handled.TheVariants.{Matched}
use Rattle.uas_host.specs.declared.seen.Sight.{Sight}
use Rattle.uas_host.specs.Events.{freed_on, handled_td, host_seen, told_on}
use Rattle.uas_host.specs.Sights.{notice_by}
use Rattle.uas_host.specs.State.{HostState}

-- the host that was seen so, once it is known that it was
seen-after : (seen : Option HostState) (host after : HostState) (saw : Bool) →
    MatchOption seen ((saw ≡ false) × (after ≡ host)) (λ now. (saw ≡ true) × (after ≡ now)) → saw ≡ true → seen ≡ Some after
seen-after None host after saw unseen is = absurd (false≢true (sym unseen.0 ∙ is))
seen-after (Some now) host after saw was is = rw was.1 refl

pub transfer-matched : (host after : HostState) (lines freed : LinesState) (frames : List TagBuffers) (pointer residual code : ℕ) (td : EndedTd)
    (unit sense : List ℕ) (sight : Sight) (saw : Bool) →
    unit ≡ take (STATUS_BYTES - residual) (held_for frames td.tag).status → sense ≡ drop 16 unit →
    option_map (notice_by (drop 16 unit)) (Some sight) ≡ told_on td.pipe unit code td.tag →
    MatchOption (host_seen (notice_by sense sight) host td.tag) ((saw ≡ false) × (after ≡ host)) (λ now. (saw ≡ true) × (after ≡ now)) → saw ≡ true →
    freed ≡ freed_on td.pipe after lines td.tag pointer →
    handled_td (record { host = host; lines = lines }) frames pointer residual code (Some td)
    ≡ (record { host = after; lines = freed }, Matched td.tag)
transfer-matched host after lines freed frames pointer residual code td unit sense sight saw unit_is sense_is told saw_so is freed_is =
    let seen = seen-after (host_seen (notice_by sense sight) host td.tag) host after saw saw_so is in
    rw (← unit_is, ← told, ← sense_is, seen, freed_is) refl
