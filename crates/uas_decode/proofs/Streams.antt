-- A text that is decoded part after part.
use Rattle.std.proofs.Common.{◌≡◌, ◌≢◌, ℕ, ◌==◌, ◌||◌, ◌≤◌, Bool, true, false, List, [], ◌∷◌, ◌++◌, length, map, All, arith, refl, sym, ◌∙◌, ap, append_assoc, append-nil}
use Rattle.std.proofs.Common.{Option, Some, None, if◌then◌else◌}
use Rattle.std.specs.List.{join_with_byte, list_any, slice_split}
use Rattle.std.specs.Io.KnownBytes.{Appends, Consumes}
use Rattle.std.proofs.KnownBytes.{Appends-trans}
use Rattle.std.specs.Bool.{Decides}
use Rattle.std.proofs.Math.Bool.{or_assoc}
use Rattle.std.proofs.lemmas.Bool.Decides.{Decides-eqb}
use Rattle.uas_decode.specs.Printed.{answered, is_refused}
use Rattle.uas_decode.specs.Runs.{decoded_from, refused_from}

-- what was written of a text, the line that was begun and the bytes that are left make up the whole
pub record GoesAt (bytes rest : List ℕ) (old new : Option (List ℕ)) (line : List ℕ) (refused : Bool) : Type 0 where
  pub written : List ℕ
  pub text : Appends old new written
  pub whole : decoded_from [] bytes ≡ written ++ decoded_from line rest
  pub refusals : refused_from [] bytes ≡ (refused || refused_from line rest)

abbrev pub Goes : List ℕ → Option (List ℕ) → Option (List ℕ) → Option (List ℕ) → List ℕ → Bool → Type 0
Goes bytes None old new line refused = ⊥
Goes bytes (Some rest) old new line refused = GoesAt bytes rest old new line refused

-- known bytes that a part was read of, decoded and written, where nothing waited
pub goes_on : (bytes : List ℕ) (left after old middle new : Option (List ℕ)) (line more part waiting text : List ℕ) (refused now : Bool)
    → Goes bytes left old middle line refused → Consumes left after part → waiting ≡ []
    → ((rest : List ℕ) → waiting ++ decoded_from line (part ++ rest) ≡ text ++ decoded_from more rest)
    → ((rest : List ℕ) → (refused || refused_from line (part ++ rest)) ≡ (now || refused_from more rest))
    → Appends middle new text → Goes bytes after old new more now
goes_on bytes None after old middle new line more part waiting text refused now goes read waits texts refusals wrote = absurd goes
goes_on bytes (Some rest) None old middle new line more part waiting text refused now goes read waits texts refusals wrote = absurd read
goes_on bytes (Some rest) (Some left) old middle new line more part waiting text refused now goes read waits texts refusals wrote =
    let fed : decoded_from line (part ++ left) ≡ text ++ decoded_from more left =
    sym (ap (λ l. l ++ decoded_from line (part ++ left)) waits) ∙ texts left in
    record {
      written = goes.written ++ text;
      text = Appends-trans old middle new goes.written text goes.text wrote;
      whole =
          goes.whole ∙ ap (λ l. goes.written ++ decoded_from line l) read ∙ ap (λ l. goes.written ++ l) fed
          ∙ sym (append_assoc goes.written text (decoded_from more left));
      refusals = goes.refusals ∙ ap (λ l. refused || refused_from line l) read ∙ refusals left;
    }

-- a byte that ends a line, and another
pub decoded-end : (line : List ℕ) (byte : ℕ) (rest : List ℕ) → (byte == 10) ≡ true
    → decoded_from line (byte ∷ rest) ≡ answered line ++ (10 ∷ decoded_from [] rest)
unfolding decoded_from
decoded-end line byte rest same = rw same refl

pub decoded-more : (line : List ℕ) (byte : ℕ) (rest : List ℕ) → (byte == 10) ≡ false
    → decoded_from line (byte ∷ rest) ≡ decoded_from (line ++ byte ∷ []) rest
unfolding decoded_from
decoded-more line byte rest other = rw other refl

pub refused-end : (line : List ℕ) (byte : ℕ) (rest : List ℕ) → (byte == 10) ≡ true
    → refused_from line (byte ∷ rest) ≡ (is_refused line || refused_from [] rest)
unfolding refused_from
refused-end line byte rest same = rw same refl

pub refused-more : (line : List ℕ) (byte : ℕ) (rest : List ℕ) → (byte == 10) ≡ false
    → refused_from line (byte ∷ rest) ≡ refused_from (line ++ byte ∷ []) rest
unfolding refused_from
refused-more line byte rest other = rw other refl

-- what a line's end does to the text that waits and to the line
pub text-end : (text line after next : List ℕ) (byte : ℕ) (rest : List ℕ) → byte ≡ 10 → after ≡ (text ++ answered line) ++ byte ∷ [] → next ≡ []
    → text ++ decoded_from line (byte ∷ rest) ≡ after ++ decoded_from next rest
text-end text line after next byte rest same is_after is_next =
    let feed : (byte == 10) ≡ true = (Decides-eqb byte 10).1 same in
    let end : after ≡ (text ++ answered line) ++ (10 ∷ []) = is_after ∙ ap (λ b. (text ++ answered line) ++ (b ∷ [])) same in
    ap (λ l. text ++ l) (decoded-end line byte rest feed) ∙ sym (append_assoc text (answered line) (10 ∷ decoded_from [] rest))
    ∙ sym (append_assoc (text ++ answered line) (10 ∷ []) (decoded_from [] rest))
    ∙ sym (ap (λ l. l ++ decoded_from next rest) end ∙ ap (λ l. ((text ++ answered line) ++ (10 ∷ [])) ++ decoded_from l rest) is_next)

pub refusal-end : (before after : Bool) (line next : List ℕ) (byte : ℕ) (rest : List ℕ) → byte ≡ 10 → after ≡ (before || is_refused line) → next ≡ []
    → (before || refused_from line (byte ∷ rest)) ≡ (after || refused_from next rest)
refusal-end before after line next byte rest same is_after is_next =
    let feed : (byte == 10) ≡ true = (Decides-eqb byte 10).1 same in
    ap (λ b. before || b) (refused-end line byte rest feed) ∙ sym (or_assoc before (is_refused line) (refused_from [] rest))
    ∙ sym (ap (λ b. b || refused_from next rest) is_after ∙ ap (λ l. (before || is_refused line) || refused_from l rest) is_next)

other_byte : (byte : ℕ) (is_feed : Bool) → Decides is_feed (byte ≡ 10) → byte ≢ 10 → is_feed ≡ false
other_byte byte true decides other = absurd (other (decides.0 refl))
other_byte byte false decides other = refl

-- what another byte does to the line
pub text-more : (text line next : List ℕ) (byte : ℕ) (rest : List ℕ) → byte ≢ 10 → next ≡ line ++ byte ∷ []
    → text ++ decoded_from line (byte ∷ rest) ≡ text ++ decoded_from next rest
text-more text line next byte rest other is_next =
    ap (λ l. text ++ l) (decoded-more line byte rest (other_byte byte (byte == 10) (Decides-eqb byte 10) other))
    ∙ ap (λ l. text ++ decoded_from l rest) (sym is_next)

pub refusal-more : (refused : Bool) (line next : List ℕ) (byte : ℕ) (rest : List ℕ) → byte ≢ 10 → next ≡ line ++ byte ∷ []
    → (refused || refused_from line (byte ∷ rest)) ≡ (refused || refused_from next rest)
refusal-more refused line next byte rest other is_next =
    ap (λ b. refused || b) (refused-more line byte rest (other_byte byte (byte == 10) (Decides-eqb byte 10) other))
    ∙ ap (λ l. refused || refused_from l rest) (sym is_next)
