-- Each line of a script goes on by steps of the bus, and so do all of them.
use Rattle.std.proofs.Common.{◌≡◌, ◌∙◌, ℕ, zero, suc, Bool, true, false, cond, ◌+◌, List, [], ◌∷◌, ◌++◌, length, map, fold, Option, Some, None}
use Rattle.std.proofs.Common.{Result, Ok, Err, option_map, option_to_list, refl, ap, ap₂, sym, subst}
use Rattle.std.proofs.lemmas.List.{append-nil}
use Rattle.std.proofs.lemmas.Bool.{eqb-true}
use Rattle.std.specs.Prelude.{◌==◌, ◌-◌, ◌||◌, slice_get, slice_set, position, not}
use Rattle.scsi_cmd.specs.declared.Command.{Command}
use Rattle.scsi_cmd.specs.declared.Task.{Task}
use Rattle.scsi_cmd.specs.declared.Reply.{Reply}
use Rattle.scsi_cmd.specs.declared.Reply.TheVariants.{Status as StatusReply, Aborted as AbortedReply, Task as TaskReply}
use Rattle.scsi_cmd.specs.Op.{direction_of}
use Rattle.tag_range.specs.declared.Refused.{Refused}
use Rattle.tag_range.specs.declared.Refused.TheVariants.{NoTag, TaskBusy, Worn}
use Rattle.tag_range.specs.Tags.{ClientTags, CountedTags, counted, issue_entry, is_worn, tag_at, task_tag}
use Rattle.uas_profile.specs.declared.Pipe.TheVariants.{Status, DataIn, DataOut}
use Rattle.shared_machine.specs.declared.Step.{Step}
use Rattle.shared_machine.specs.declared.Step.TheVariants as step
use Rattle.shared_machine.specs.declared.Mark.TheVariants.{Submit as SubmitMark, Quiet}
use Rattle.shared_machine.specs.declared.Outcome.{Outcome}
use Rattle.shared_machine.specs.declared.Refusal.{Refusal}
use Rattle.shared_machine.specs.Shared.{Shared, due, greatest_tag, shared_step}
use Rattle.shared_machine.specs.Drain.{all_tags, retirements, tries, tried, tried_one, round, rounds}
use Rattle.isolation.specs.Laws.{HeadlineHolds}
use Rattle.isolation.specs.Isolation.{renumbered, label_of, is_own, own_label, own_reply}
use Rattle.uas_replay.specs.declared.replay.Handed.{Handed}
use Rattle.uas_replay.specs.declared.replay.Handed.TheVariants as hand
use Rattle.uas_script.specs.declared.Request.{Request}
use Rattle.uas_script.specs.declared.Line.{Line}
use Rattle.uas_script.specs.declared.Line.TheVariants as line
use Rattle.uas_replay.specs.Printed.{refused_name, fault_name}
use Rattle.uas_replay.specs.Told.{Telling, drain_limit, step_of, is_due, drained_machine, is_to_host, command_of, refused_run, freed_run, handed_over}
use Rattle.uas_replay.specs.Told.{took_to_host, noted_run, is_brought_in, with_range, given_run, handed_in_by, handed_in, replied}
use Rattle.scsi_cmd.specs.Replies.{reply_tag, reply_ticket}
use Rattle.uas_replay.specs.Told.{taken, idle_run, stepped, taken_or_idle, taken_times, all_taken_by, taken_below, all_taken, drained_run, told_line}
use Rattle.uas_replay.specs.Headline.{Said, line_of, replied as said_reply, refused_by_bus, refused_by_tags, idle as said_idle, own_lines}
use Rattle.uas_replay.proofs.NoNews.{untold_deliveries, unshown, IsNoSubmission, no_label, inner_no_submission, same_notes}
use Rattle.uas_replay.proofs.Outcomes.{Untold, IsInner, inner_untold, IsTaken, take_told, MarksSubmission, IsSubmitted, submit_told, IsManaged, task_told}
use Rattle.uas_replay.proofs.Goes.{Goes, IsNoted, goes_nowhere, goes_on, goes_saying, goes_by_step, is_to_host_by, shown_by}
use Rattle.uas_replay.proofs.Notes.{flags_of, noted_after, ranges_noted, ticket_noted, freed_noted}

-- SINGLE STEPS

abbrev at_machine : Telling → Shared → Telling
at_machine run machine = record run { machine = machine }

-- a step that tells nothing, and no submission
untold_goes : HeadlineHolds → (run : Telling) (taken : Step) → IsNoSubmission taken → Untold (shared_step run.machine taken).1
    → Goes run (at_machine run (shared_step run.machine taken).0)
untold_goes isolated run taken is untold =
    goes_by_step isolated run (at_machine run (shared_step run.machine taken).0) taken [] (record {
      machine = refl;
      text = sym (append-nil run.text);
      deliveries = untold_deliveries (shared_step run.machine taken).1 untold;
      noted = λ noted. noted;
      own = λ client. unshown run.machine.tags run.brings_in client (shared_step run.machine taken).1 untold.reply;
      notes = λ noted client ticket. same_notes (is_brought_in run.brings_in client ticket) run.machine.tags client ticket taken (shared_step run.machine taken).1 is;
    })

inner_goes : HeadlineHolds → (run : Telling) (taken : Step) → IsInner taken → Goes run (at_machine run (shared_step run.machine taken).0)
inner_goes isolated run taken inner = untold_goes isolated run taken (inner_no_submission taken inner) (inner_untold run.machine taken inner)

idle_goes : (run : Telling) → Goes run (idle_run run)
idle_goes run = goes_saying run (idle_run run) said_idle refl refl (λ noted. noted) refl refl (λ client. refl)

stepped_goes : HeadlineHolds → (run : Telling) (taken : Step) → IsInner taken → Goes run (stepped run taken)
unfolding stepped is_due step_of
stepped_goes isolated run taken inner = go (due run.machine taken)
  where
    go : (b : Bool) → Goes run (cond b (at_machine run (shared_step run.machine taken).0) (idle_run run))
    go true = inner_goes isolated run taken inner
    go false = idle_goes run

-- TAKES

-- a client's Take
abbrev takes : Telling → ℕ → Shared × Outcome
takes run client = shared_step run.machine (step.Take client)

reply_ticket-renumbered : (tags client : ℕ) (reply : Reply) → reply_ticket reply ≡ reply_ticket (renumbered tags client reply)
reply_ticket-renumbered tags client (StatusReply tag ticket status sense buffer) = refl
reply_ticket-renumbered tags client (AbortedReply tag ticket buffer) = refl
reply_ticket-renumbered tags client (TaskReply tag ticket code) = refl

-- a reply is shown to its owner alone
reply_shown : (tags : ℕ) (brings_in : List (List Bool)) (owner client : ℕ) (reply : Reply) (outcome : Outcome) → outcome.owner ≡ Some owner → outcome.reply ≡ Some reply
    → own_lines tags client (said_reply owner (is_brought_in brings_in owner (reply_ticket reply)) reply ∷ [])
    ≡ option_to_list (option_map (shown_by brings_in client) (own_reply tags client outcome))
reply_shown tags brings_in owner client reply outcome owned given =
    rw (owned, given) (elim (owner == client) as (λ b. (owner == client) ≡ b
    → option_to_list (cond b (Some (is_brought_in brings_in owner (reply_ticket reply), renumbered tags client reply)) None) ++ []
    ≡ option_to_list (option_map (shown_by brings_in client) (cond b (Some (renumbered tags client reply)) None))) [
      | true ↦ λ same.
          let it : owner ≡ client = eqb-true owner client same in
          ap₂ (λ (c t : ℕ). (is_brought_in brings_in c t, renumbered tags client reply) ∷ []) it (reply_ticket-renumbered tags client reply)
      | false ↦ λ apart. refl
    ] refl)

taken_goes : HeadlineHolds → (run : Telling) (client : ℕ) → Goes run (taken run client)
unfolding taken is_due step_of
taken_goes isolated run client = go (due run.machine (step.Take client)) refl
  where
    by_reply : IsTaken client (takes run client).1 → (reply : Option Reply) → (takes run client).1.reply ≡ reply
        → Goes run (replied (at_machine run (takes run client).0) client reply)
    by_reply told None none = untold_goes isolated run (step.Take client) tt (record { reply = none; refused = told.refused })
    by_reply told (Some reply) given =
        let outcome : Outcome = (takes run client).1 in
        let said : Said = said_reply client (is_brought_in run.brings_in client (reply_ticket reply)) reply in
        goes_by_step isolated run (replied (at_machine run (takes run client).0) client (Some reply)) (step.Take client) (said ∷ []) (record {
          machine = refl;
          text = ap (λ (t : List ℕ). run.text ++ t) (sym (append-nil (line_of said)));
          deliveries = rw (told.owner, given, told.refused) refl;
          noted = λ noted. freed_noted (at_machine run (takes run client).0) client (reply_tag reply) noted;
          own = λ other. reply_shown run.machine.tags run.brings_in client other reply outcome told.owner given;
          notes = λ noted other ticket. same_notes (is_brought_in run.brings_in other ticket) run.machine.tags other ticket (step.Take client) outcome tt;
        })

    go : (b : Bool) → due run.machine (step.Take client) ≡ b
        → Goes run (cond b (replied (at_machine run (takes run client).0) client (takes run client).1.reply) run)
    go true is = by_reply (take_told run.machine client is) (takes run client).1.reply refl
    go false is = goes_nowhere run

taken_or_idle_goes : HeadlineHolds → (run : Telling) (client : ℕ) → Goes run (taken_or_idle run client)
unfolding taken_or_idle is_due
taken_or_idle_goes isolated run client = go (due run.machine (step.Take client))
  where
    go : (b : Bool) → Goes run (cond b (taken run client) (idle_run run))
    go true = taken_goes isolated run client
    go false = idle_goes run

times_goes : HeadlineHolds → (times : ℕ) (run : Telling) (client : ℕ) → Goes run (taken_times times run client)
times_goes isolated zero run client = goes_nowhere run
times_goes isolated (suc times) run client =
    goes_on isolated run (taken_times times run client) (taken_times (suc times) run client)
    (times_goes isolated times run client) (taken_goes isolated (taken_times times run client) client)

all_taken_by_goes : HeadlineHolds → (run : Telling) (client : ℕ) → Goes run (all_taken_by run client)
unfolding all_taken_by
all_taken_by_goes isolated run client = times_goes isolated run.machine.tags run client

below_goes : HeadlineHolds → (clients : ℕ) (run : Telling) → Goes run (taken_below clients run)
below_goes isolated zero run = goes_nowhere run
below_goes isolated (suc client) run =
    goes_on isolated run (taken_below client run) (taken_below (suc client) run)
    (below_goes isolated client run) (all_taken_by_goes isolated (taken_below client run) client)

all_taken_goes : HeadlineHolds → (run : Telling) → Goes run (all_taken run)
unfolding all_taken
all_taken_goes isolated run = below_goes isolated (length run.ranges) run

-- THE DRAIN

abbrev AllInner : List Step → Type 0
AllInner [] = Unit {0}
AllInner (taken ∷ rest) = IsInner taken × AllInner rest

inner_append : (steps more : List Step) → AllInner steps → AllInner more → AllInner (steps ++ more)
inner_append [] more all rest = rest
inner_append (taken ∷ steps) more all rest = (all.0, inner_append steps more all.1 rest)

inner_map : (f : ℕ → Step) (tags : List ℕ) → ((tag : ℕ) → IsInner (f tag)) → AllInner (map f tags)
inner_map f [] inner = tt
inner_map f (tag ∷ tags) inner = (inner tag, inner_map f tags inner)

inner_tries : (greatest : ℕ) → AllInner (tries greatest)
inner_tries greatest =
    let tags : List ℕ = all_tags greatest in
    let first : List Step = step.CommandPipe ∷ step.Engine ∷ step.Event ∷ [] in
    let moves : List Step = first ++ map step.Data tags in
    let sends : List Step = moves ++ map step.Status tags in
    let statuses : List Step = sends ++ retirements greatest Status in
    let inward : List Step = statuses ++ retirements greatest DataIn in
    inner_append inward (retirements greatest DataOut)
    (inner_append statuses (retirements greatest DataIn)
    (inner_append sends (retirements greatest Status)
    (inner_append moves (map step.Status tags)
    (inner_append first (map step.Data tags) (tt, (tt, (tt, tt))) (inner_map step.Data tags (λ tag. tt)))
    (inner_map step.Status tags (λ tag. tt)))
    (inner_map (step.Retire Status) tags (λ tag. tt)))
    (inner_map (step.Retire DataIn) tags (λ tag. tt)))
    (inner_map (step.Retire DataOut) tags (λ tag. tt))

tried_one_goes : HeadlineHolds → (run : Telling) (now : Shared × ℕ) (taken : Step) → IsInner taken
    → Goes (at_machine run now.0) (at_machine run (tried_one now taken).0)
tried_one_goes isolated run now taken inner = go (now.1 == 0)
  where
    acts : (b : Bool) → Goes (at_machine run now.0) (at_machine run (cond b ((shared_step now.0 taken).0, now.1 - 1) now).0)
    acts true = inner_goes isolated (at_machine run now.0) taken inner
    acts false = goes_nowhere (at_machine run now.0)

    go : (b : Bool) → Goes (at_machine run now.0) (at_machine run (cond b now (cond (due now.0 taken) ((shared_step now.0 taken).0, now.1 - 1) now)).0)
    go true = goes_nowhere (at_machine run now.0)
    go false = acts (due now.0 taken)

tried_goes : HeadlineHolds → (run : Telling) (now : Shared × ℕ) (steps : List Step) → AllInner steps
    → Goes (at_machine run now.0) (at_machine run (tried now steps).0)
tried_goes isolated run now [] inner = goes_nowhere (at_machine run now.0)
tried_goes isolated run now (taken ∷ steps) inner =
    goes_on isolated (at_machine run now.0) (at_machine run (tried_one now taken).0) (at_machine run (tried now (taken ∷ steps)).0)
    (tried_one_goes isolated run now taken inner.0) (tried_goes isolated run (tried_one now taken) steps inner.1)

rounds_goes : HeadlineHolds → (most : ℕ) (run : Telling) (now : Shared × ℕ) → Goes (at_machine run now.0) (at_machine run (rounds most now).state)
unfolding rounds
rounds_goes isolated zero run now = goes_nowhere (at_machine run now.0)
rounds_goes isolated (suc more) run now =
    let one : Goes (at_machine run now.0) (at_machine run (round now).0) =
    tried_goes isolated run now (tries (greatest_tag now.0)) (inner_tries (greatest_tag now.0)) in
    goes_on isolated (at_machine run now.0) (at_machine run (round now).0) (at_machine run (rounds (suc more) now).state) one
    (go (rounds_goes isolated more run (round now)) ((round now).1 == 0))
  where
    ends : Goes (at_machine run (round now).0) (at_machine run (rounds more (round now)).state) → (b : Bool) → Goes (at_machine run (round now).0)
        (at_machine run (cond b (record { state = (round now).0; left = (round now).1; quiet = true }) (rounds more (round now))).state)
    ends rest true = goes_nowhere (at_machine run (round now).0)
    ends rest false = rest

    go : Goes (at_machine run (round now).0) (at_machine run (rounds more (round now)).state) → (b : Bool) → Goes (at_machine run (round now).0)
        (at_machine run (cond b (record { state = (round now).0; left = 0; quiet = false })
        (cond ((round now).1 == now.1) (record { state = (round now).0; left = (round now).1; quiet = true }) (rounds more (round now)))).state)
    go rest true = goes_nowhere (at_machine run (round now).0)
    go rest false = ends rest ((round now).1 == now.1)

pub drained_goes : HeadlineHolds → (run : Telling) → Goes run (drained_run run)
unfolding drained_run drained_machine
drained_goes isolated run =
    let drained : Telling = at_machine run (drained_machine run.machine drain_limit) in
    goes_on isolated run drained (drained_run run) (rounds_goes isolated (suc drain_limit) run (run.machine, drain_limit)) (all_taken_goes isolated drained)

-- SUBMISSIONS

-- a client's submission under this tag and ticket
abbrev submits : Telling → ℕ → ℕ → ℕ → Request → Shared × Outcome
submits run client tag ticket request = shared_step run.machine (step.Submit client tag ticket (command_of request))

-- the run once the bus took a step of a submission, whose client's tags are now these
abbrev submitted_by_tags : Telling → ℕ → ℕ → ℕ → Request → CountedTags → Telling
submitted_by_tags run client tag ticket request now = at_machine (with_range run client now) (submits run client tag ticket request).0

-- the client's own tags refuse
refused_goes : (run : Telling) (client : ℕ) (tags now : CountedTags) (refused : Refused) → slice_get run.ranges client ≡ Some tags → now.held.next ≡ tags.held.next
    → Goes run (refused_run (with_range run client now) client (refused_name refused))
refused_goes run client tags now refused found next =
    goes_saying run (refused_run (with_range run client now) client (refused_name refused)) (refused_by_tags client refused) refl refl
    (ranges_noted run (refused_run (with_range run client now) client (refused_name refused)) client tags now found next refl refl)
    refl refl (λ other. refl)

-- what is noted of a submission is what its label says
label_noted : (tags client other given index ticket : ℕ) (command : Command) (tag : ℕ) (outcome : Outcome)
    → outcome.owner ≡ Some client → outcome.mark ≡ SubmitMark index
    → cond (client == other) (cond (given == ticket) (is_to_host (direction_of command.op)) false) false
    ≡ is_to_host_by ticket (own_label tags other (step.Submit client tag given command) outcome)
label_noted tags client other given index ticket command tag outcome owned marked =
    rw (owned, marked) (go (client == other))
  where
    go : (b : Bool) → cond b (cond (given == ticket) (is_to_host (direction_of command.op)) false) false
        ≡ is_to_host_by ticket (cond b (label_of tags (SubmitMark index) (step.Submit client tag given command)) None)
    go true = refl
    go false = refl

-- nothing is noted of a refused one
refused_noted : (tags client other given ticket : ℕ) (taken : Step) (outcome : Outcome) → outcome.mark ≡ Quiet
    → cond (client == other) (cond (given == ticket) false false) false ≡ is_to_host_by ticket (own_label tags other taken outcome)
refused_noted tags client other given ticket taken outcome quiet =
    rw quiet (none (client == other) (given == ticket) ∙ sym (go (is_own other outcome)))
  where
    none : (a b : Bool) → cond a (cond b false false) false ≡ false
    none true true = refl
    none true false = refl
    none false b = refl

    go : (b : Bool) → is_to_host_by ticket (cond b (label_of tags Quiet taken) None) ≡ false
    go true = refl
    go false = refl

-- the bus refuses what a client handed in under a tag and a ticket of its own: the ticket is skipped and the refusal told
bus_refuses_goes : HeadlineHolds → (run : Telling) (client : ℕ) (tags now : CountedTags) (tag : ℕ) (taken : Step) (refusal : Refusal)
    → slice_get run.ranges client ≡ Some tags → now.held.next ≡ tags.held.next + 1 → (shared_step run.machine taken).1.owner ≡ Some client
    → (shared_step run.machine taken).1.reply ≡ None → (shared_step run.machine taken).1.refused ≡ Some refusal
    → ((other given ticket : ℕ) → cond (client == other) (cond (given == ticket) false false) false
    ≡ is_to_host_by ticket (own_label run.machine.tags other taken (shared_step run.machine taken).1))
    → Goes run (handed_over (noted_run (at_machine (with_range run client now) (shared_step run.machine taken).0) client false) client tag (Some refusal))
bus_refuses_goes isolated run client tags now tag taken refusal found next owner reply some unnoted =
    let before : Telling = noted_run (at_machine (with_range run client now) (shared_step run.machine taken).0) client false in
    goes_by_step isolated run (refused_run (freed_run before client tag) client (fault_name refusal.fault)) taken
    (refused_by_bus client refusal.fault ∷ []) (record {
      machine = refl;
      text = ap (λ (t : List ℕ). run.text ++ t) (sym (append-nil (line_of (refused_by_bus client refusal.fault))));
      deliveries = rw (owner, reply, some) refl;
      noted = λ noted. freed_noted before client tag (ticket_noted run before client tags now false found next refl refl noted);
      own = λ other. unshown run.machine.tags run.brings_in other (shared_step run.machine taken).1 reply;
      notes = λ noted other ticket.
          let flags = flags_of run client tags noted found in
          noted_after run.brings_in client false flags.flags flags.is other ticket
          ∙ ap (λ (b : Bool). is_brought_in run.brings_in other ticket || b) (unnoted other (length flags.flags) ticket);
    })

-- the client's own tags gave a tag and a ticket
given_goes : HeadlineHolds → (run : Telling) (client : ℕ) (request : Request) (tags now : CountedTags) (tag : ℕ) → slice_get run.ranges client ≡ Some tags
    → now.held.next ≡ tags.held.next + 1 → Goes run (given_run (with_range run client now) client (hand.Command request) (Ok (tag, tags.held.next)))
unfolding step_of
given_goes isolated run client request tags now tag found next = go (shared_step run.machine taken).1.refused refl told.mark
  where
    taken : Step
    taken = step.Submit client tag tags.held.next (command_of request)

    told : IsSubmitted client (submits run client tag tags.held.next request).1
    told = submit_told run.machine client tag tags.held.next (command_of request)

    go : (refused : Option Refusal) → (submits run client tag tags.held.next request).1.refused ≡ refused
        → MarksSubmission (submits run client tag tags.held.next request).1.mark (submits run client tag tags.held.next request).1.refused
        → Goes run (handed_over (noted_run (submitted_by_tags run client tag tags.held.next request now)
        client (took_to_host (direction_of request.op) refused)) client tag refused)
    go None none mark =
        let outcome : Outcome = (submits run client tag tags.held.next request).1 in
        let marked : MarksSubmission outcome.mark None = subst (MarksSubmission outcome.mark) none mark in
        goes_by_step isolated run (noted_run (submitted_by_tags run client tag tags.held.next request now)
        client (is_to_host (direction_of request.op))) (step.Submit client tag tags.held.next (command_of request)) [] (record {
          machine = refl;
          text = sym (append-nil run.text);
          deliveries = untold_deliveries outcome (record { reply = told.reply; refused = none });
          noted = ticket_noted run (noted_run (submitted_by_tags run client tag tags.held.next request now)
              client (is_to_host (direction_of request.op))) client tags now (is_to_host (direction_of request.op)) found next refl refl;
          own = λ other. unshown run.machine.tags run.brings_in other outcome told.reply;
          notes = λ noted other ticket.
              let flags = flags_of run client tags noted found in
              noted_after run.brings_in client (is_to_host (direction_of request.op)) flags.flags flags.is other ticket
              ∙ ap (λ (n : ℕ). is_brought_in run.brings_in other ticket || cond (client == other)
              (cond (n == ticket) (is_to_host (direction_of request.op)) false) false)
              flags.count
              ∙ ap (λ (b : Bool). is_brought_in run.brings_in other ticket || b)
              (label_noted run.machine.tags client other tags.held.next marked.0 ticket (command_of request) tag outcome told.owner marked.1);
        })
    go (Some refusal) some mark =
        let outcome : Outcome = (submits run client tag tags.held.next request).1 in
        let quiet : outcome.mark ≡ Quiet = subst (MarksSubmission outcome.mark) some mark in
        bus_refuses_goes isolated run client tags now tag taken refusal found next told.owner told.reply some
        (λ other given ticket. refused_noted run.machine.tags client other given ticket taken outcome quiet)

-- a run goes on by what so many tags of a client answer to what it hands in
abbrev GoesByAnswer : Telling → ℕ → Handed → ℕ → ClientTags × Result (ℕ × ℕ) Refused → Type 0
GoesByAnswer run client handed number after = Goes run (given_run (with_range run client (counted number after).0) client handed (counted number after).1)

-- tags of which one more is out, and one more ticket
abbrev one_more : ClientTags → ℕ → ClientTags
one_more tags entry = record tags { next = tags.next + 1; out = slice_set tags.out entry true }

submitted_goes : HeadlineHolds → (run : Telling) (client : ℕ) (request : Request) → Goes run (handed_in run client (hand.Command request))
unfolding handed_in
submitted_goes isolated run client request = go (slice_get run.ranges client) refl
  where
    worn : (tags : CountedTags) (entry : ℕ) → slice_get run.ranges client ≡ Some tags → (b : Bool)
        → GoesByAnswer run client (hand.Command request) tags.tags (cond {A = ClientTags × Result (ℕ × ℕ) Refused} b (tags.held, Err Worn)
        (one_more tags.held entry, Ok (tag_at tags.tags tags.held.client (entry + 1), tags.held.next)))
    worn tags entry found true = refused_goes run client tags (record { tags = tags.tags; held = tags.held }) Worn found refl
    worn tags entry found false =
        given_goes isolated run client request tags (record { tags = tags.tags; held = one_more tags.held entry })
        (tag_at tags.tags tags.held.client (entry + 1)) found refl

    by_entry : (tags : CountedTags) → slice_get run.ranges client ≡ Some tags → (entry : Option ℕ)
        → GoesByAnswer run client (hand.Command request) tags.tags (issue_entry tags.tags tags.held entry)
    by_entry tags found None = refused_goes run client tags (record { tags = tags.tags; held = tags.held }) NoTag found refl
    by_entry tags found (Some entry) = worn tags entry found (is_worn tags.held)

    go : (found : Option CountedTags) → slice_get run.ranges client ≡ found → Goes run (handed_in_by run client (hand.Command request) found)
    go None is = goes_nowhere run
    go (Some tags) is = by_entry tags is (position not tags.held.out)

-- TASK MANAGEMENT

-- a client's task management under this ticket
abbrev manages : Telling → ℕ → ℕ → Task → Shared × Outcome
manages run client ticket task = shared_step run.machine (step.Task client ticket task)

-- nothing is noted of a task management, and its label is of no command
task_noted : (tags client other given ticket : ℕ) (taken : Step) (outcome : Outcome) → IsNoSubmission taken
    → cond (client == other) (cond (given == ticket) false false) false ≡ is_to_host_by ticket (own_label tags other taken outcome)
task_noted tags client other given ticket taken outcome is = none (client == other) (given == ticket) ∙ sym (no_label tags other ticket taken outcome is)
  where
    none : (a b : Bool) → cond a (cond b false false) false ≡ false
    none true true = refl
    none true false = refl
    none false b = refl

-- the client's own tags gave the task tag and a ticket
given_task_goes : HeadlineHolds → (run : Telling) (client : ℕ) (task : Task) (tags now : CountedTags) (tag : ℕ) → slice_get run.ranges client ≡ Some tags
    → now.held.next ≡ tags.held.next + 1 → Goes run (given_run (with_range run client now) client (hand.Task task) (Ok (tag, tags.held.next)))
unfolding step_of
given_task_goes isolated run client task tags now tag found next = go (manages run client tags.held.next task).1.refused refl
  where
    taken : Step
    taken = step.Task client tags.held.next task

    outcome : Outcome
    outcome = (manages run client tags.held.next task).1

    told : IsManaged client outcome
    told = task_told run.machine client tags.held.next task

    before : Telling
    before = noted_run (at_machine (with_range run client now) (manages run client tags.held.next task).0) client false

    notes : IsNoted run → (other ticket : ℕ)
        → is_brought_in before.brings_in other ticket ≡ (is_brought_in run.brings_in other ticket || is_to_host_by ticket (own_label run.machine.tags other taken outcome))
    notes noted other ticket =
        let flags = flags_of run client tags noted found in
        noted_after run.brings_in client false flags.flags flags.is other ticket
        ∙ ap (λ (b : Bool). is_brought_in run.brings_in other ticket || b) (task_noted run.machine.tags client other (length flags.flags) ticket taken outcome tt)

    go : (refused : Option Refusal) → outcome.refused ≡ refused → Goes run (handed_over before client tag refused)
    go None none =
        goes_by_step isolated run before taken [] (record {
          machine = refl;
          text = sym (append-nil run.text);
          deliveries = untold_deliveries outcome (record { reply = told.reply; refused = none });
          noted = ticket_noted run before client tags now false found next refl refl;
          own = λ other. unshown run.machine.tags run.brings_in other outcome told.reply;
          notes = notes;
        })
    go (Some refusal) some =
        bus_refuses_goes isolated run client tags now tag taken refusal found next told.owner told.reply some
        (λ other given ticket. task_noted run.machine.tags client other given ticket taken outcome tt)

-- the task tag is out, and one more ticket
abbrev task_out : ClientTags → ClientTags
task_out tags = record tags { next = tags.next + 1; task_out = true }

managed_goes : HeadlineHolds → (run : Telling) (client : ℕ) (task : Task) → Goes run (handed_in run client (hand.Task task))
unfolding handed_in
managed_goes isolated run client task = go (slice_get run.ranges client) refl
  where
    worn : (tags : CountedTags) → slice_get run.ranges client ≡ Some tags → (b : Bool)
        → GoesByAnswer run client (hand.Task task) tags.tags (cond {A = ClientTags × Result (ℕ × ℕ) Refused} b (tags.held, Err Worn)
        (task_out tags.held, Ok (task_tag tags.tags tags.held.client, tags.held.next)))
    worn tags found true = refused_goes run client tags (record { tags = tags.tags; held = tags.held }) Worn found refl
    worn tags found false =
        given_task_goes isolated run client task tags (record { tags = tags.tags; held = task_out tags.held }) (task_tag tags.tags tags.held.client) found refl

    busy : (tags : CountedTags) → slice_get run.ranges client ≡ Some tags → (b : Bool)
        → GoesByAnswer run client (hand.Task task) tags.tags (cond {A = ClientTags × Result (ℕ × ℕ) Refused} b (tags.held, Err TaskBusy)
        (cond {A = ClientTags × Result (ℕ × ℕ) Refused} (is_worn tags.held) (tags.held, Err Worn)
        (task_out tags.held, Ok (task_tag tags.tags tags.held.client, tags.held.next))))
    busy tags found true = refused_goes run client tags (record { tags = tags.tags; held = tags.held }) TaskBusy found refl
    busy tags found false = worn tags found (is_worn tags.held)

    go : (found : Option CountedTags) → slice_get run.ranges client ≡ found → Goes run (handed_in_by run client (hand.Task task) found)
    go None is = goes_nowhere run
    go (Some tags) is = busy tags is tags.held.task_out

-- LINES

line_goes : HeadlineHolds → (run : Telling) (one : Line) → Goes run (told_line run one)
unfolding told_line
line_goes isolated run (line.Submit client request) = submitted_goes isolated run client request
line_goes isolated run (line.Task client task) = managed_goes isolated run client task
line_goes isolated run line.CommandPipe = stepped_goes isolated run step.CommandPipe tt
line_goes isolated run line.Engine = stepped_goes isolated run step.Engine tt
line_goes isolated run line.Event = stepped_goes isolated run step.Event tt
line_goes isolated run (line.Data tag) = stepped_goes isolated run (step.Data tag) tt
line_goes isolated run (line.Status tag) = stepped_goes isolated run (step.Status tag) tt
line_goes isolated run (line.Retire pipe tag) = stepped_goes isolated run (step.Retire pipe tag) tt
line_goes isolated run (line.Take client) = taken_or_idle_goes isolated run client
line_goes isolated run line.Drain = drained_goes isolated run

pub lines_go : HeadlineHolds → (lines : List Line) (run : Telling) → Goes run (fold told_line run lines)
lines_go isolated [] run = goes_nowhere run
lines_go isolated (one ∷ lines) run =
    goes_on isolated run (told_line run one) (fold told_line run (one ∷ lines)) (line_goes isolated run one) (lines_go isolated lines (told_line run one))
