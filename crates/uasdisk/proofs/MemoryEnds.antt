-- How every run ends that had no memory for its words: with 4; nothing was printed, read or opened.
use Rattle.std.proofs.Common.{◌≡◌, ℕ, List, [], Option, Some, None, inl, inr, refl, arith, ap, sym, ◌∙◌}
use Rattle.std.specs.Prelude.{IfSome}
use Rattle.std.specs.Io.KnownBytes.{Appends, Keeps}
use Rattle.std.proofs.lemmas.List.{append-nil}
use Rattle.clap.specs.Words.{HasKind, Text, kind_of}
use Rattle.clap.specs.declared.error.Error.{Error}
use Rattle.clap.specs.declared.error.kind.ErrorKind.TheVariants.{OutOfMemory}
use Rattle.uas_decode.specs.Runs.{Begins, decoded}
use Rattle.uas_words.specs.CommandLine.{Asked, replay, trace, work, keep, decode, make, info, dump, fill, audit, draw, page, capture}
use Rattle.uasdisk.specs.Ends.{Ends, Host, World}

appends-kept : (old new : Option (List ℕ)) → Keeps old new → Appends old new []
appends-kept None new kept = tt
appends-kept (Some xs) None kept = absurd kept
appends-kept (Some xs) (Some ys) kept = kept ∙ sym (append-nil xs)

begins-kept : (input old new : Option (List ℕ)) → Keeps old new → IfSome input (λ bytes. Begins bytes old new)
begins-kept None old new kept = tt
begins-kept (Some bytes) old new kept = record { written = []; rest = decoded bytes; text = appends-kept old new kept; beginning = refl }

memory_ends : (asked : Asked) (host : Host) (old new : World) (status : ℕ) → status ≡ 4 → Keeps old.output new.output → new.holds ≡ old.holds
    → new.kept ≡ old.kept → new.input ≡ old.input → Ends asked host old new status
memory_ends (replay clients tags blocks bad) host old new status four kept files same input = record {
  statuses = inr (inr four);
  told = λ low. absurd (omega (arith, four, low));
  read = λ low. absurd (omega (arith, four, low));
  fault = λ three. absurd (omega (arith, four, three));
  memory = λ is. kept;
  files = files;
}
memory_ends (trace clients tags blocks bad) host old new status four kept files same input = record {
  statuses = inr (inr four);
  traced = λ low. absurd (omega (arith, four, low));
  text = λ low. absurd (omega (arith, four, low));
  read = λ low. absurd (omega (arith, four, low));
  fault = λ three. absurd (omega (arith, four, three));
  files = files;
}
memory_ends (work clients tags depth rounds None) host old new status four kept files same input = record {
  statuses = inr (inr four);
  told = λ low. absurd (omega (arith, four, low));
  fault = λ three. absurd (omega (arith, four, three));
  memory = λ is. kept;
  files = files;
  input = input;
}
memory_ends (work clients tags depth rounds (Some file)) host old new status four kept files same input = record {
  statuses = inr (inr four);
  saved = λ low. absurd (omega (arith, four, low));
  created = λ low. absurd (omega (arith, four, low));
  fault = λ three. absurd (omega (arith, four, three));
  memory = λ is. inl kept;
  held = λ high tells. files;
  input = input;
}
memory_ends (keep clients tags depth rounds file every) host old new status four kept files same input = record {
  statuses = inr (inr four);
  told = λ low. absurd (omega (arith, four, low));
  fault = λ three. absurd (omega (arith, four, three));
  memory = λ is. kept;
  left = λ least told. ∣ inl (ap (λ (held : Text → Option (List ℕ)). held file) same) ∣₁;
  input = input;
}
memory_ends decode host old new status four kept files same input = record {
  statuses = inr (inr four);
  decoded = λ low. absurd (omega (arith, four, low));
  read = λ low. absurd (omega (arith, four, low));
  fault = λ three. absurd (omega (arith, four, three));
  memory = λ is. begins-kept old.input old.output new.output kept;
  files = files;
}
memory_ends (make file blocks replaces) host old new status four kept files same input = record {
  statuses = inr (inr four);
  image = λ low. absurd (omega (arith, four, low));
  told = λ low. absurd (omega (arith, four, low));
  fault = λ three. absurd (omega (arith, four, three));
  memory = λ is. kept;
  input = input;
}
memory_ends (info file) host old new status four kept files same input = record {
  statuses = inr (inr four);
  told = λ low. absurd (omega (arith, four, low));
  read = λ low. absurd (omega (arith, four, low));
  fault = λ three. absurd (omega (arith, four, three));
  memory = λ is. kept;
  files = files;
  input = input;
}
memory_ends (dump file lba count) host old new status four kept files same input = record {
  statuses = inr (inr four);
  told = λ low. absurd (omega (arith, four, low));
  blocks = λ low. absurd (omega (arith, four, low));
  read = λ low. absurd (omega (arith, four, low));
  fault = λ three. absurd (omega (arith, four, three));
  memory = λ is. kept;
  files = files;
  input = input;
}
memory_ends (fill file lba count byte) host old new status four kept files same input = record {
  statuses = inr (inr four);
  told = λ low. absurd (omega (arith, four, low));
  image = λ low. absurd (omega (arith, four, low));
  blocks = λ low. absurd (omega (arith, four, low));
  kept = λ one. absurd (omega (arith, four, one));
  read = λ low. absurd (omega (arith, four, low));
  created = λ low. absurd (omega (arith, four, low));
  fault = λ three. absurd (omega (arith, four, three));
  memory = λ is. kept;
  input = input;
}
memory_ends (audit file head) host old new status four kept files same input = record {
  statuses = inr (inr four);
  told = λ low. absurd (omega (arith, four, low));
  read = λ low. absurd (omega (arith, four, low));
  fault = λ three. absurd (omega (arith, four, three));
  memory = λ is. kept;
  files = files;
  input = input;
}
memory_ends (draw clients tags blocks bad) host old new status four kept files same input = record {
  statuses = inr (inr four);
  traced = λ low. absurd (omega (arith, four, low));
  drawn = λ low. absurd (omega (arith, four, low));
  of = λ low. absurd (omega (arith, four, low));
  read = λ low. absurd (omega (arith, four, low));
  fault = λ three. absurd (omega (arith, four, three));
  memory = λ is. kept;
  files = files;
}
memory_ends (page clients tags blocks bad) host old new status four kept files same input = record {
  statuses = inr (inr four);
  traced = λ low. absurd (omega (arith, four, low));
  drawn = λ low. absurd (omega (arith, four, low));
  of = λ low. absurd (omega (arith, four, low));
  read = λ low. absurd (omega (arith, four, low));
  fault = λ three. absurd (omega (arith, four, three));
  memory = λ is. kept;
  files = files;
}
memory_ends (capture clients tags blocks file bad) host old new status four kept files same input = record {
  statuses = inr (inr four);
  told = λ low. absurd (omega (arith, four, low));
  captured = λ low. absurd (omega (arith, four, low));
  of = λ low. absurd (omega (arith, four, low));
  created = λ low. absurd (omega (arith, four, low));
  fault = λ three. absurd (omega (arith, four, three));
  memory = λ is. kept;
}

pub asked_ends : (found : Option Asked) (host : Host) (old new : World) (status : ℕ) → status ≡ 4 → Keeps old.output new.output
    → new.holds ≡ old.holds → new.kept ≡ old.kept → new.input ≡ old.input → IfSome found (λ asked. Ends asked host old new status)
asked_ends None host old new status four kept files same input = tt
asked_ends (Some asked) host old new status four kept files same input = memory_ends asked host old new status four kept files same input

-- words that aren't refused give an error for want of memory alone
pub only_memory : (e : Error) → HasKind [] e → kind_of e ≡ OutOfMemory
only_memory e (inl memory) = memory
only_memory e (inr none) = absurd none
