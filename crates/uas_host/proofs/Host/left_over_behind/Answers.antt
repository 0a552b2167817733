use Rattle.std.proofs.Common.{◌≡◌, ◌<◌, ◌≤◌, ◌+◌, ◌*◌, ◌∙◌, ℕ, false, ap, arith, length, sym, subst, inl, inr}
use Rattle.std.proofs.lemmas.List.{get_or_default}
use Rattle.scsi_cmd.specs.Held.{held_at}
use Rattle.uas_profile.specs.declared.Place.{Place}
use Rattle.uas_profile.specs.Tags.{tag_of}
use Rattle.uas_host.specs.declared.HostClient.{HostClient}
use Rattle.uas_host.specs.Left.{is_held_left_over}
use Rattle.uas_host.specs.Retirement.{is_left_over_on}
use Rattle.uas_host.specs.State.{HostState, client_of, new_client}
use Rattle.uas_host.proofs.LeftOver.{IsFirst, earlier-client, first-later, left_over-found, left_over-further, left_over-none, left_over-passed, left_over-past}
use Rattle.uas_host.proofs.Host.left_over_behind.Goals as goal
use Rattle.uas_host.proofs.Host.left_over_behind.Goals.{then-client-next, else-client-next}

pub returns-in_err-next-clause-none : goal.returns-in_err-next-clause-none
returns-in_err-next-clause-none c =
    rw c.from_residual.ensures (λ other above. left_over-past c.args.self.now c.args.pipe c.saturating_add.result (omega (arith, c.tags-tags.ensures.number.least))
    (omega (arith, c.saturating_add.ensures)) (sym c.place_of.ensures.place ∙ c.in_err-next.was) other (omega (arith, above, c.saturating_add.ensures)))

pub returns-in-Some-left_over_from-clause-next : goal.returns-in-Some-left_over_from-clause-next
returns-in-Some-left_over_from-clause-next c =
    let host : HostState = record { tags = c.self.inside.tags; clients = c.self.inside.clients.items; retirement = c.self.inside.retirement } in
    let from : Place = c.loop-client.next in
    let first : ℕ = c.if-client-next.first in
    let client : ℕ = c.in-Some.client in
    let slot : ℕ = c.in-Some-left_over_from.slot in
    let found = c.in-Some-left_over_from.ensures.slot in
    let there : client < length host.clients = c.self.invariant.1.there client c.in-Some.ensures.next.2 in
    let tags : c.tags-tags.result ≡ host.tags = c.tags-tags.ensures.tags ∙ ap (λ (h : HostState). h.tags) (sym c.self.view_is) in
    let tag : c.tag_of.result ≡ tag_of host.tags (record { client = client; slot = slot }) =
    c.tag_of.ensures.tag ∙ ap (λ (h : HostState). tag_of h.tags (record { client = client; slot = slot })) (sym c.self.view_is) in
    let from_slot : from.slot < host.tags = subst (λ (h : HostState). from.slot < h.tags) (sym c.self.view_is) c.loop-client.invariant.slot in
    let within : slot < host.tags = subst (λ n. slot < n) tags found.1 in
    let held : c.index.result.now ≡ client_of host client = c.index.ensures ∙ get_or_default host.clients client _ new_client there in
    let left : HostClient → ℕ → _ = λ (h : HostClient) (s : ℕ). is_held_left_over c.args.pipe (held_at h.entries s) in
    let first_is : IsFirst from client first =
    elim c.if-client-next.branch [
      | then-client-next w ↦ inl (w.if-client-next.true, w.first-is)
      | else-client-next w ↦ inr (w.if-client-next.false, w.first-is)
    ] in
    let passed : (other : ℕ) → tag_of host.tags from ≤ other → other < client * host.tags + slot + 1 → is_left_over_on host c.args.pipe other ≡ false =
    left_over-passed c.self.inside.marks host c.args.pipe from client first slot c.self.invariant.1 (omega (arith, within))
    from_slot (omega (arith, within))
    c.in-Some.ensures.next.3 (λ s low high. ap (λ h. left h s) (sym held) ∙ found.3 s low high) first_is in
    let before : (other : ℕ) → c.args.tag < other → other < tag_of host.tags from → is_left_over_on host c.args.pipe other ≡ false =
    subst (λ (h : HostState). (other : ℕ) → c.args.tag < other → other < tag_of h.tags from → is_left_over_on h c.args.pipe other ≡ false)
    (sym c.self.view_is) c.loop-client.invariant.none in
    let above : c.args.tag < tag_of host.tags from =
    subst (λ (h : HostState). c.args.tag < tag_of h.tags from) (sym c.self.view_is) c.loop-client.invariant.above in
    let later = first-later host.tags from client first slot from_slot c.in-Some.ensures.next.0 first_is found.0 in
    rw (← c.self.view_is) (
      omega (arith, above, tag, later),
      subst (λ (h : HostState). c.tag_of.result ≤ length h.clients * h.tags) (sym c.self.view_is) c.tag_of.ensures.within,
      left_over-found host c.args.pipe (record { client = client; slot = slot }) c.tag_of.result there within tag
          (ap (λ h. left h slot) (sym held) ∙ found.2),
      λ other more below. left_over-further host c.args.pipe c.args.tag (tag_of host.tags from) (client * host.tags + slot + 1) before passed other more
          (omega (arith, below, tag)),
    )

pub loop-client-preserved : goal.loop-client-preserved
loop-client-preserved c =
    let host : HostState = record { tags = c.self.inside.tags; clients = c.self.inside.clients.items; retirement = c.self.inside.retirement } in
    let from : Place = c.loop-client.next in
    let first : ℕ = c.if-client-next.first in
    let client : ℕ = c.in-Some.client in
    let there : client < length host.clients = c.self.invariant.1.there client c.in-Some.ensures.next.2 in
    let tags : c.tags-tags.result ≡ host.tags = c.tags-tags.ensures.tags ∙ ap (λ (h : HostState). h.tags) (sym c.self.view_is) in
    let some : 0 < host.tags = omega (arith, c.self.invariant.0.number.least) in
    let held : c.index.result.now ≡ client_of host client = c.index.ensures ∙ get_or_default host.clients client _ new_client there in
    let left : HostClient → ℕ → _ = λ (h : HostClient) (s : ℕ). is_held_left_over c.args.pipe (held_at h.entries s) in
    let first_is : IsFirst from client first =
    elim c.if-client-next.branch [
      | then-client-next w ↦ inl (w.if-client-next.true, w.first-is)
      | else-client-next w ↦ inr (w.if-client-next.false, w.first-is)
    ] in
    let slot : from.slot < host.tags = subst (λ (h : HostState). from.slot < h.tags) (sym c.self.view_is) c.loop-client.invariant.slot in
    let passed : (other : ℕ) → tag_of host.tags from ≤ other → other < client * host.tags + host.tags + 1 → is_left_over_on host c.args.pipe other ≡ false =
    left_over-passed c.self.inside.marks host c.args.pipe from client first host.tags c.self.invariant.1 some slot (omega arith)
    c.in-Some.ensures.next.3
    (λ s low high. ap (λ h. left h s) (sym held) ∙ c.in_default-left_over_from.ensures.none s low (omega (arith, high, tags))) first_is in
    let before : (other : ℕ) → c.args.tag < other → other < tag_of host.tags from → is_left_over_on host c.args.pipe other ≡ false =
    subst (λ (h : HostState). (other : ℕ) → c.args.tag < other → other < tag_of h.tags from → is_left_over_on h c.args.pipe other ≡ false)
    (sym c.self.view_is) c.loop-client.invariant.none in
    let above : c.args.tag < tag_of host.tags from =
    subst (λ (h : HostState). c.args.tag < tag_of h.tags from) (sym c.self.view_is) c.loop-client.invariant.above in
    let next : (client + 1) * host.tags ≡ client * host.tags + host.tags = omega arith in
    let later = earlier-client host.tags from.client (client + 1) (from.slot + 1) 0 (omega (arith, slot)) (omega (arith, c.in-Some.ensures.next.0)) in
    rw (← c.self.view_is) (record {
      slot = some;
      above = omega (arith, above, later);
      none = λ other more below. left_over-further host c.args.pipe c.args.tag (tag_of host.tags from) (client * host.tags + host.tags + 1) before passed other
          more (omega (arith, below, next));
    })

pub returns-clause-none : goal.returns-clause-none
returns-clause-none c =
    let host : HostState = record { tags = c.self.inside.tags; clients = c.self.inside.clients.items; retirement = c.self.inside.retirement } in
    let from : Place = c.loop-client.next in
    let slot : from.slot < host.tags = subst (λ (h : HostState). from.slot < h.tags) (sym c.self.view_is) c.loop-client.invariant.slot in
    let before : (other : ℕ) → c.args.tag < other → other < tag_of host.tags from → is_left_over_on host c.args.pipe other ≡ false =
    subst (λ (h : HostState). (other : ℕ) → c.args.tag < other → other < tag_of h.tags from → is_left_over_on h c.args.pipe other ≡ false)
    (sym c.self.view_is) c.loop-client.invariant.none in
    rw (← c.self.view_is) (λ other above. left_over-further host c.args.pipe c.args.tag (tag_of host.tags from) (other + 1) before
    (λ later past within. left_over-none c.self.inside.marks host c.args.pipe from c.self.invariant.1 (omega (arith, slot)) slot c.in_default.ensures.none
    later past) other above (omega arith))
