-- How a run ends: at the end of its bytes, or stopped before.
use Rattle.std.proofs.Common.{◌≡◌, ℕ, ◌||◌, ◌++◌, Bool, true, false, List, [], ◌∷◌, refl, sym, subst, ◌∙◌, ap, append-nil}
use Rattle.std.proofs.Common.{Option, Some, None}
use Rattle.std.specs.Prelude.{IfSome}
use Rattle.std.specs.Io.KnownBytes.{Appends, Consumes, IsAtEnd, Keeps}
use Rattle.std.proofs.KnownBytes.{Appends-trans}
use Rattle.uas_decode.specs.Printed.{answered, is_refused}
use Rattle.uas_decode.specs.Runs.{Begins, Decodes, decoded, decoded_from, has_refusal, refused_from, status_of}
use Rattle.uas_decode.proofs.ByLines.{decoded-by_lines, refused-by_lines}
use Rattle.uas_decode.proofs.Streams.{Goes, GoesAt, goes_on}

-- what is said of a value that is known, by what is said of it otherwise
pub with_known : {X : Type 0} (P Q : X → Type 0) → (known : Option X) → IfSome known P → ((x : X) → P x → Q x) → IfSome known Q
with_known P Q None said next = tt
with_known P Q (Some x) said next = next x said

-- nothing was written of bytes that are all left
pub goes_from : (left written : Option (List ℕ)) → IfSome left (λ bytes. Goes bytes left written written [] false)
goes_from None written = tt
goes_from (Some bytes) None = record { written = []; text = tt; whole = refl; refusals = refl }
goes_from (Some bytes) (Some text) = record { written = []; text = sym (append-nil text); whole = refl; refusals = refl }

-- the last line is answered where no byte is left
pub at_end : (bytes : List ℕ) (left after old middle new : Option (List ℕ)) (line text : List ℕ) (refused now : Bool)
    → Goes bytes left old middle line refused → Consumes left after [] → IsAtEnd after → text ≡ answered line → now ≡ (refused || is_refused line)
    → Appends middle new text → Decodes bytes old new (status_of now)
unfolding decoded_from refused_from
at_end bytes None after old middle new line text refused now goes read ended is_text is_now wrote = absurd goes
at_end bytes (Some rest) None old middle new line text refused now goes read ended is_text is_now wrote = absurd read
at_end bytes (Some rest) (Some left) old middle new line text refused now goes read ended is_text is_now wrote =
    let none : rest ≡ [] = read ∙ ended in
    let whole : decoded bytes ≡ goes.written ++ text =
    sym (decoded-by_lines bytes) ∙ goes.whole ∙ ap (λ l. goes.written ++ decoded_from line l) none ∙ ap (λ l. goes.written ++ l) (sym is_text) in
    let told : has_refusal bytes ≡ now =
    sym (refused-by_lines bytes) ∙ goes.refusals ∙ ap (λ l. refused || refused_from line l) none ∙ sym is_now in
    record {
      text = subst (Appends old new) (sym whole) (Appends-trans old middle new goes.written text goes.text wrote);
      told = ap status_of (sym told);
    }

appends-keeps : (old middle new : Option (List ℕ)) (text : List ℕ) → Appends old middle text → Keeps middle new → Appends old new text
appends-keeps None middle new text wrote kept = tt
appends-keeps (Some before) None new text wrote kept = absurd wrote
appends-keeps (Some before) (Some after) None text wrote kept = absurd kept
appends-keeps (Some before) (Some after) (Some same) text wrote kept = kept ∙ wrote

-- a run that stops wrote a beginning
pub stopped : (bytes : List ℕ) (left old new : Option (List ℕ)) (line : List ℕ) (refused : Bool) → Goes bytes left old new line refused
    → Begins bytes old new
stopped bytes None old new line refused goes = absurd goes
stopped bytes (Some rest) old new line refused goes = record {
  written = goes.written;
  rest = decoded_from line rest;
  text = goes.text;
  beginning = sym (decoded-by_lines bytes) ∙ goes.whole;
}

pub stopped-keeps : (bytes : List ℕ) (left old middle new : Option (List ℕ)) (line : List ℕ) (refused : Bool)
    → Goes bytes left old middle line refused → Keeps middle new → Begins bytes old new
stopped-keeps bytes left old middle new line refused goes kept =
    let begun = stopped bytes left old middle line refused goes in
    record { written = begun.written; rest = begun.rest; text = appends-keeps old middle new begun.written begun.text kept; beginning = begun.beginning }

-- OF BYTES THAT MAY BE KNOWN

pub known_stopped : (known left old new : Option (List ℕ)) (line : List ℕ) (refused : Bool)
    → IfSome known (λ bytes. Goes bytes left old new line refused) → IfSome known (λ bytes. Begins bytes old new)
known_stopped known left old new line refused goes =
    with_known (λ bytes. Goes bytes left old new line refused) (λ bytes. Begins bytes old new) known goes
    (λ bytes one. stopped bytes left old new line refused one)

pub known_stopped-keeps : (known left old middle new : Option (List ℕ)) (line : List ℕ) (refused : Bool)
    → IfSome known (λ bytes. Goes bytes left old middle line refused) → Keeps middle new → IfSome known (λ bytes. Begins bytes old new)
known_stopped-keeps known left old middle new line refused goes kept =
    with_known (λ bytes. Goes bytes left old middle line refused) (λ bytes. Begins bytes old new) known goes
    (λ bytes one. stopped-keeps bytes left old middle new line refused one kept)

-- a read of no byte, where there was room for one, is the end
pub known_at_end : (known left after old middle new : Option (List ℕ)) (line waiting text : List ℕ) (refused now : Bool)
    → IfSome known (λ bytes. Goes bytes left old middle line refused)
    → Consumes left after [] → IsAtEnd after → waiting ≡ [] → text ≡ waiting ++ answered line → now ≡ (refused || is_refused line)
    → Appends middle new text → IfSome known (λ bytes. Decodes bytes old new (status_of now))
known_at_end known left after old middle new line waiting text refused now goes read ended waits is_text is_now wrote =
    with_known (λ bytes. Goes bytes left old middle line refused) (λ bytes. Decodes bytes old new (status_of now)) known goes
    (λ bytes one. at_end bytes left after old middle new line text refused now one read ended (is_text ∙ ap (λ l. l ++ answered line) waits)
    is_now wrote)

pub known_goes_on : (known left after old middle new : Option (List ℕ)) (line more next part waiting text : List ℕ) (refused now told : Bool)
    → IfSome known (λ bytes. Goes bytes left old middle line refused) → Consumes left after part → waiting ≡ []
    → ((rest : List ℕ) → waiting ++ decoded_from line (part ++ rest) ≡ text ++ decoded_from more rest)
    → ((rest : List ℕ) → (refused || refused_from line (part ++ rest)) ≡ (now || refused_from more rest))
    → Appends middle new text → next ≡ more → told ≡ now → IfSome known (λ bytes. Goes bytes after old new next told)
known_goes_on known left after old middle new line more next part waiting text refused now told goes read waits texts refusals wrote is_next is_told =
    with_known (λ bytes. Goes bytes left old middle line refused) (λ bytes. Goes bytes after old new next told) known goes
    (λ bytes one. subst (λ l. Goes bytes after old new l told) (sym is_next)
    (subst (λ b. Goes bytes after old new more b) (sym is_told)
    (goes_on bytes left after old middle new line more part waiting text refused now one read waits texts refusals wrote)))
