-- A text that is told as objects byte by byte.
use Rattle.std.proofs.Common.{◌≡◌, ◌≢◌, ◌∙◌, ℕ, ◌==◌, Bool, true, false, List, [], ◌∷◌, ◌++◌, refl, ap, sym, append_assoc, append-nil}
use Rattle.std.specs.Bool.{Decides}
use Rattle.std.proofs.lemmas.Bool.Decides.{Decides-eqb}
use Rattle.line_objects.specs.declared.Form.{Form}
use Rattle.line_objects.specs.Objects.{object_line, objects, objects_from}

objects-end : (form : Form) (line : List ℕ) (byte : ℕ) (rest : List ℕ) → (byte == 10) ≡ true
    → objects_from form line (byte ∷ rest) ≡ object_line form line ++ objects_from form [] rest
unfolding objects_from
objects-end form line byte rest same = rw same refl

objects-more : (form : Form) (line : List ℕ) (byte : ℕ) (rest : List ℕ) → (byte == 10) ≡ false
    → objects_from form line (byte ∷ rest) ≡ objects_from form (line ++ byte ∷ []) rest
unfolding objects_from
objects-more form line byte rest other = rw other refl

pub text-end : (form : Form) (text line after next : List ℕ) (byte : ℕ) (rest : List ℕ) → byte ≡ 10 → after ≡ text ++ object_line form line → next ≡ []
    → text ++ objects_from form line (byte ∷ rest) ≡ after ++ objects_from form next rest
text-end form text line after next byte rest same is_after is_next =
    let feed : (byte == 10) ≡ true = (Decides-eqb byte 10).1 same in
    ap (λ l. text ++ l) (objects-end form line byte rest feed) ∙ sym (append_assoc text (object_line form line) (objects_from form [] rest))
    ∙ sym (ap (λ l. l ++ objects_from form next rest) is_after ∙ ap (λ l. (text ++ object_line form line) ++ objects_from form l rest) is_next)

other_byte : (byte : ℕ) (is_feed : Bool) → Decides is_feed (byte ≡ 10) → byte ≢ 10 → is_feed ≡ false
other_byte byte true decides other = absurd (other (decides.0 refl))
other_byte byte false decides other = refl

pub text-more : (form : Form) (text line next : List ℕ) (byte : ℕ) (rest : List ℕ) → byte ≢ 10 → next ≡ line ++ byte ∷ []
    → text ++ objects_from form line (byte ∷ rest) ≡ text ++ objects_from form next rest
text-more form text line next byte rest other is_next =
    ap (λ l. text ++ l) (objects-more form line byte rest (other_byte byte (byte == 10) (Decides-eqb byte 10) other))
    ∙ ap (λ l. text ++ objects_from form l rest) (sym is_next)

-- all bytes, where nothing was taken in before them
pub text-done : (form start mid : Form) (bytes text line first begun after : List ℕ) → start ≡ form → mid ≡ start → first ≡ [] → begun ≡ []
    → ((rest : List ℕ) → first ++ objects_from start begun (bytes ++ rest) ≡ text ++ objects_from start line rest)
    → after ≡ text ++ objects_from mid line [] → after ≡ objects form bytes
text-done form start mid bytes text line first begun after is_start is_mid no_text no_line goes is =
    is ∙ (ap (λ f. text ++ objects_from f line []) is_mid ∙ (sym (goes []) ∙ (ap (λ l. l ++ objects_from start begun (bytes ++ [])) no_text
    ∙ (ap (λ l. objects_from start l (bytes ++ [])) no_line ∙ (ap (objects_from start []) (append-nil bytes) ∙ ap (λ f. objects_from f [] bytes) is_start)))))
