-- A file that is read in parts, and what is told of the whole.
use Rattle.std.proofs.Common.{◌≡◌, ℕ, ◌≤◌, true, List, [], ◌∷◌, ◌++◌, length, take, Option, Some, None, IfSome, refl, ap, ◌∙◌, arith}
use Rattle.std.specs.Prelude.{nat_eq}
use Rattle.std.proofs.lemmas.List.{length-take, take-append-le}
use lib.Pointwise.{pointwise, pointwise_long}
use Rattle.kept_log.specs.declared.Found.{Found}
use Rattle.kept_log.specs.Parts.{IsFound, step_asked}
use Rattle.kept_log.specs.Saved.{plain_of}
use Rattle.audit_run.specs.declared.AuditFault.TheVariants.{OtherHead}
use Rattle.audit_run.specs.Audits.{IsRefusedBy, head_text, is_kept, state_of}

-- HOW A TEXT BEGINS

name : List ℕ
name = 0x55 ∷ 0x41 ∷ 0x53 ∷ 0x4C ∷ 0x4F ∷ 0x47 ∷ 0 ∷ 3 ∷ []

-- eight bytes tell the version
pub kept_on : (front more : List ℕ) → 8 ≤ length front → is_kept (front ++ more) ≡ is_kept front
unfolding name
kept_on front more enough = ap (pointwise nat_eq name) (take-append-le 8 front more enough)

pub kept_long : (front : List ℕ) → is_kept front ≡ true → 8 ≤ length front
unfolding name
kept_long front third = omega (arith, pointwise_long nat_eq name (take 8 front) third, length-take 8 front)

weaker : (first second : List ℕ → Type 0) (left : Option (List ℕ)) → ((back : List ℕ) → first back → second back) → IfSome left first → IfSome left second
weaker first second None leads is = tt
weaker first second (Some back) leads is = leads back is

-- A TEXT OF THE THIRD VERSION

-- a log of which the checksum that is asked for is none
pub other_log : (head : Option ℕ) (front : List ℕ) (left : Option (List ℕ)) (found : Found) → is_kept front ≡ true
    → ((text : List ℕ) → is_kept text ≡ true → found.step ≡ step_asked head text → head_text head text ≡ None)
    → IfSome left (λ (back : List ℕ). IsFound head (front ++ back) found) → IfSome left (λ (back : List ℕ). IsRefusedBy head (front ++ back) OtherHead)
other_log head front left found third other is =
    weaker (λ (back : List ℕ). IsFound head (front ++ back) found) (λ (back : List ℕ). IsRefusedBy head (front ++ back) OtherHead) left (λ back it.
    let whole : is_kept (front ++ back) ≡ true = kept_on front back (kept_long front third) ∙ third in
    record {
      log = plain_of found.loaded.log;
      state = Some (state_of found.loaded);
      is = record { loaded = found.loaded; third = whole; read = it.loaded; log_is = refl; state_is = refl };
      other = other (front ++ back) whole it.step;
    }) is
