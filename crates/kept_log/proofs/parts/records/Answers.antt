use Rattle.std.proofs.Common.{◌≡◌, ℕ, ◌+◌, ◌≤◌, suc, [], ◌∷◌, ◌++◌, List, Option, None, Ok, Err, Result, IfSome, IsTrue, length, refl, rules, arith, ap, sym, subst, ◌∙◌}
use Rattle.std.proofs.lemmas.List.{length-append}
use Rattle.uas_log.specs.declared.FirstUnit.{FirstUnit}
use Rattle.log_records.specs.Finding.{first_record}
use Rattle.kept_log.specs.declared.Entry.{Entry}
use Rattle.kept_log.specs.declared.Found.{Found}
use Rattle.kept_log.specs.declared.KeptFault.{KeptFault}
use Rattle.kept_log.specs.declared.Loaded.{Loaded}
use Rattle.kept_log.specs.declared.Next.{Next}
use Rattle.kept_log.specs.declared.Next.TheVariants.{Goes, Ends}
use Rattle.kept_log.specs.Form.{head_text}
use Rattle.kept_log.specs.Loading.{IsNext, next_at}
use Rattle.kept_log.specs.Parts.{HasTaken, IsFound, step_behind, step_with}
use Rattle.kept_log.specs.Shown.{Shown}
use Rattle.kept_log.proofs.Placed.{step_first, step_more, step_so_far}
use Rattle.kept_log.proofs.Seen.{goes_small, head_starts, loaded_of, more_seen, one_taken, same_next, text_ends, text_fails, window_bytes}
use Rattle.kept_log.proofs.parts.records.Goals as goal

pub loop-entry-init : goal.loop-entry-init
loop-entry-init g c =
    let left = g.S.Source.left c.args.source.now in
    let tags : ℕ = c.args.head.tags in
    let units : List FirstUnit = c.args.head.units.items in
    let none : c.new-entries.result.items ≡ [] = c.new-entries.ensures.items in
    let shown : Shown = c.args.window.now in
    record {
      taken = subst (λ (entries : List Entry). HasTaken (head_text tags units ++ shown.bytes) left left tags units entries c.args.head.len c.args.head.sum shown) (sym none)
          (head_starts left tags units c.args.head.len c.args.head.sum shown c.requires.keepable c.requires.len.0 c.requires.sum c.requires.are c.requires.ended);
      step = c.step_with-step.ensures ∙ ap (λ n. step_with None c.args.wanted n 0) c.requires.sum ∙ step_first c.args.wanted tags units
          ∙ ap (step_so_far c.args.wanted tags units) (sym none);
      near = omega (arith, c.requires.len.1);
      same = refl;
      stays = refl;
    }

pub overflow_add-at-in-Ok-Goes : goal.overflow_add-at-in-Ok-Goes
overflow_add-at-in-Ok-Goes g c =
    let l = c.loop-entry in
    let left = g.S.Source.left in
    let tags : ℕ = c.args.head.tags in
    let units : List FirstUnit = c.args.head.units.items in
    let entries : List Entry = l.entries.items in
    let seen : List ℕ = head_text tags units ++ c.args.window.now.bytes in
    let clients : c.len.result ≡ length units = omega (arith, c.len.ensures) in
    let count : c.len-in-loop-entry.result ≡ length entries = omega (arith, c.len-in-loop-entry.ensures) in
    let comes : next_at (length units) (length entries) l.at l.sum l.window.bytes ≡ Ok (Goes c.in-Ok-Goes.entry c.in-Ok-Goes.len c.in-Ok-Goes.after) =
    sym (same_next tags units entries c.len.result c.len-in-loop-entry.result l.at l.sum c.bytes.result.now l.window.bytes clients count c.bytes.ensures)
    ∙ c.in-Ok-Goes.ensures.next ∙ ap (λ (next : Next). Ok next) c.in-Ok-Goes.field-0-is in
    let small = goes_small (seen ++ l.invariant.taken.more) tags units entries l.at l.sum c.in-Ok-Goes.len c.in-Ok-Goes.after l.window.bytes c.in-Ok-Goes.entry
    (window_bytes seen (left c.args.source.now) (left l.source) tags units entries l.at l.sum l.window l.invariant.taken) l.invariant.taken.stand comes in
    omega (arith, l.invariant.near, l.invariant.taken.stand.keepable.few, small)

pub loop-entry-preserved-in-Ok-Goes : goal.loop-entry-preserved-in-Ok-Goes
loop-entry-preserved-in-Ok-Goes g c =
    let l = c.loop-entry in
    let left = g.S.Source.left in
    let old = left c.args.source.now in
    let tags : ℕ = c.args.head.tags in
    let units : List FirstUnit = c.args.head.units.items in
    let entries : List Entry = l.entries.items in
    let entry : Entry = c.in-Ok-Goes.entry in
    let len : ℕ = c.in-Ok-Goes.len in
    let after : ℕ = c.in-Ok-Goes.after in
    let seen : List ℕ = head_text tags units ++ c.args.window.now.bytes in
    let clients : c.len.result ≡ length units = omega (arith, c.len.ensures) in
    let count : c.len-in-loop-entry.result ≡ length entries = omega (arith, c.len-in-loop-entry.ensures) in
    let comes : next_at (length units) (length entries) l.at l.sum l.window.bytes ≡ Ok (Goes entry len after) =
    sym (same_next tags units entries c.len.result c.len-in-loop-entry.result l.at l.sum c.bytes.result.now l.window.bytes clients count c.bytes.ensures)
    ∙ c.in-Ok-Goes.ensures.next ∙ ap (λ (next : Next). Ok next) c.in-Ok-Goes.field-0-is in
    let within : 8 + len ≤ length l.window.bytes = search rules in
    let small = goes_small (seen ++ l.invariant.taken.more) tags units entries l.at l.sum len after l.window.bytes entry
    (window_bytes seen old (left l.source) tags units entries l.at l.sum l.window l.invariant.taken) l.invariant.taken.stand comes in
    let pushed : c.push.new.self.items ≡ entries ++ entry ∷ [] = c.in_ok-push-in-Ok-Goes.ensures.items in
    let more : length c.push.new.self.items ≡ suc (length entries) = ap length pushed ∙ omega (arith, length-append entries (entry ∷ [])) in
    let taken = one_taken seen old (left l.source) tags units entries l.at l.sum len after l.window entry l.invariant.taken within comes in
    let steps : c.len-in-Ok-Goes.result ≡ suc (length entries) = omega (arith, c.len-in-Ok-Goes.ensures, more) in
    record {
      taken = subst (λ (all : List Entry). HasTaken seen old (left l.source) tags units all (l.at + (8 + len)) after c.take.new.self) (sym pushed)
          (subst (λ (shown : Shown). HasTaken seen old (left l.source) tags units (entries ++ entry ∷ []) (l.at + (8 + len)) after shown) (sym c.take.ensures) taken);
      step = c.step_with-step-in-Ok-Goes.ensures
          ∙ ap (λ (step : Option ℕ). step_with step c.args.wanted after c.len-in-Ok-Goes.result) l.invariant.step
          ∙ ap (λ n. step_with (step_so_far c.args.wanted tags units entries) c.args.wanted after n) steps
          ∙ ap (λ n. step_with (step_so_far c.args.wanted tags units entries) c.args.wanted n (suc (length entries))) taken.sum_is
          ∙ sym (step_more c.args.wanted tags units entries entry) ∙ ap (step_so_far c.args.wanted tags units) (sym pushed);
      near = omega (arith, l.invariant.near, small, more);
      same = l.invariant.same;
      stays = l.invariant.stays;
    }

pub returns-in-Ok-Ends-clause-found : goal.returns-in-Ok-Ends-clause-found
returns-in-Ok-Ends-clause-found g c =
    let l = c.loop-entry in
    let left = g.S.Source.left in
    let old = left c.args.source.now in
    let tags : ℕ = c.args.head.tags in
    let units : List FirstUnit = c.args.head.units.items in
    let entries : List Entry = l.entries.items in
    let seen : List ℕ = head_text tags units ++ c.args.window.now.bytes in
    let wanted : Option ℕ = c.args.wanted in
    let clients : c.len.result ≡ length units = omega (arith, c.len.ensures) in
    let count : c.len-in-loop-entry.result ≡ length entries = omega (arith, c.len-in-loop-entry.ensures) in
    let comes : next_at (length units) (length entries) l.at l.sum l.window.bytes ≡ Ok (Ends c.in-Ok-Ends.ending c.in-Ok-Ends.torn) =
    sym (same_next tags units entries c.len.result c.len-in-loop-entry.result l.at l.sum c.bytes.result.now l.window.bytes clients count c.bytes.ensures)
    ∙ c.in-Ok-Ends.ensures.next ∙ ap (λ (next : Next). Ok next) c.in-Ok-Ends.field-0-is in
    let ended : IsTrue l.window.has_ended = sym c.has_ended.ensures ∙ c.if-has_ended.true in
    let steps : c.len-in-Ok-Ends.result ≡ length entries = omega (arith, c.len-in-Ok-Ends.ensures) in
    let step : step_behind (step_so_far wanted tags units entries) wanted (length entries) (first_record l.sum l.window.bytes) ≡ c.step_at_end-step.result =
    sym (c.step_at_end-step.ensures
    ∙ ap (λ (so_far : Option ℕ). step_behind so_far wanted c.len-in-Ok-Ends.result (first_record l.sum c.bytes-in-Ok-Ends.result.now)) l.invariant.step
    ∙ ap (λ n. step_behind (step_so_far wanted tags units entries) wanted n (first_record l.sum c.bytes-in-Ok-Ends.result.now)) steps
    ∙ ap (λ (bytes : List ℕ). step_behind (step_so_far wanted tags units entries) wanted (length entries) (first_record l.sum bytes)) c.bytes-in-Ok-Ends.ensures) in
    let loaded : loaded_of tags units entries c.in-Ok-Ends.ending c.in-Ok-Ends.torn ≡ c.made-loaded.result = sym c.made-loaded.ensures in
    let found : Loaded → Option ℕ → Found = λ loaded step. record { loaded = loaded; step = step } in
    let there = text_ends seen old (left l.source) tags units entries l.at l.sum l.window c.in-Ok-Ends.ending c.in-Ok-Ends.torn wanted l.invariant.taken ended comes in
    subst (λ (loaded : Loaded). IfSome old (λ (rest : List ℕ). IsFound wanted (seen ++ rest) (found loaded c.step_at_end-step.result))) loaded
    (subst (λ (step : Option ℕ). IfSome old (λ (rest : List ℕ). IsFound wanted (seen ++ rest)
    (found (loaded_of tags units entries c.in-Ok-Ends.ending c.in-Ok-Ends.torn) step))) step there)

pub loop-entry-preserved : goal.loop-entry-preserved
loop-entry-preserved g c =
    let l = c.loop-entry in
    let left = g.S.Source.left in
    let tags : ℕ = c.args.head.tags in
    let units : List FirstUnit = c.args.head.units.items in
    let seen : List ℕ = head_text tags units ++ c.args.window.now.bytes in
    record {
      taken = more_seen seen (left c.args.source.now) (left l.source) (left c.read_more.new.source) tags units l.entries.items l.at l.sum l.window c.read_more.new.self
          l.invariant.taken c.in_ok-read_more-in-Ok-Ends-2.ensures.read;
      step = l.invariant.step;
      near = l.invariant.near;
      same = c.read_more.ensures.same ∙ l.invariant.same;
      stays = c.read_more.ensures.stays ∙ l.invariant.stays;
    }

pub returns-in-Err-clause-fault : goal.returns-in-Err-clause-fault
returns-in-Err-clause-fault g c =
    let l = c.loop-entry in
    let left = g.S.Source.left in
    let tags : ℕ = c.args.head.tags in
    let units : List FirstUnit = c.args.head.units.items in
    let entries : List Entry = l.entries.items in
    let seen : List ℕ = head_text tags units ++ c.args.window.now.bytes in
    let clients : c.len.result ≡ length units = omega (arith, c.len.ensures) in
    let count : c.len-in-loop-entry.result ≡ length entries = omega (arith, c.len-in-loop-entry.ensures) in
    let comes : IsNext (Err c.in-Err.fault) (next_at (length units) (length entries) l.at l.sum l.window.bytes) =
    subst (λ (comes : Result Next KeptFault). IsNext (Err c.in-Err.fault) comes)
    (same_next tags units entries c.len.result c.len-in-loop-entry.result l.at l.sum c.bytes.result.now l.window.bytes clients count c.bytes.ensures)
    c.in-Err.ensures.next in (
      c.requires.there,
      text_fails seen (left c.args.source.now) (left l.source) tags units entries l.at l.sum l.window c.in-Err.fault l.invariant.taken comes,
    )
