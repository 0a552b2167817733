-- What is gathered, one part behind the other, and written.
use Rattle.std.proofs.Common.{◌≡◌, ◌∙◌, ℕ, List, [], ◌++◌, Option, Result, Ok, Err, ap, subst, sym, append_assoc, append-nil}
use Rattle.std.specs.Prelude.{OnErr, OnOk}
use Rattle.std.specs.Io.KnownBytes.{Appends}
use Rattle.std.proofs.KnownBytes.{Appends-trans}
use Rattle.byte_io.specs.Streams.{Began}
use Rattle.usb_serve.specs.Sending.{Gathers}

pub on_ok : {A E : Type 0} (r : Result A E) {P Q : Type 0} → (P → Q) → OnOk r P → OnOk r Q
on_ok (Ok x) f p = f p
on_ok (Err e) f p = tt

pub on_err : {A E : Type 0} (r : Result A E) {P Q : Type 0} → (P → Q) → OnErr r P → OnErr r Q
on_err (Ok x) f p = tt
on_err (Err e) f p = f p

pub began_more : (w x : Option (List ℕ)) (bytes more : List ℕ) → Began w x bytes → Began w x (bytes ++ more)
began_more w x bytes more first = record {
  part = first.part;
  rest = first.rest ++ more;
  front = sym (append_assoc first.part first.rest more) ∙ ap (λ (l : List ℕ). l ++ more) first.front;
  wrote = first.wrote;
}

pub began_then : (w x y : Option (List ℕ)) (bytes more : List ℕ) → Appends w x bytes → Began x y more → Began w y (bytes ++ more)
began_then w x y bytes more first second = record {
  part = bytes ++ second.part;
  rest = second.rest;
  front = append_assoc bytes second.part second.rest ∙ ap (λ (l : List ℕ). bytes ++ l) second.front;
  wrote = Appends-trans w x y bytes second.part first second.wrote;
}

-- two parts
pub gathers_then : (o m n : List ℕ) (u v w : Option (List ℕ)) (a b : List ℕ) → Gathers o m u v a → Gathers m n v w b → Gathers o n u w (a ++ b)
gathers_then o m n u v w a b first second = record {
  sent = first.sent ++ second.sent;
  wrote = Appends-trans u v w first.sent second.sent first.wrote second.wrote;
  whole = sym (append_assoc o a b) ∙ ap (λ (l : List ℕ). l ++ b) first.whole ∙ append_assoc first.sent m b
      ∙ ap (λ (l : List ℕ). first.sent ++ l) second.whole ∙ sym (append_assoc first.sent second.sent n);
}

-- what was gathered was written to a point
pub began_gathered : (o m : List ℕ) (u v w : Option (List ℕ)) (a : List ℕ) → Gathers o m u v a → Began v w m → Began u w (o ++ a)
began_gathered o m u v w a first second =
    subst (Began u w) (sym first.whole) (began_then u v w first.sent m first.wrote second)

-- or the first part of more
pub began_front : (o : List ℕ) (u w : Option (List ℕ)) (a b : List ℕ) → Began u w (o ++ a) → Began u w (o ++ (a ++ b))
began_front o u w a b first = subst (Began u w) (append_assoc o a b) (began_more u w (o ++ a) b first)

-- or that part, and then some of more
pub began_behind : (o m : List ℕ) (u v w : Option (List ℕ)) (a b : List ℕ) → Gathers o m u v a → Began v w (m ++ b) → Began u w (o ++ (a ++ b))
began_behind o m u v w a b first second =
    subst (Began u w)
    (sym (append_assoc first.sent m b) ∙ ap (λ (l : List ℕ). l ++ b) (sym first.whole) ∙ append_assoc o a b)
    (began_then u v w first.sent (m ++ b) first.wrote second)

-- all was written at once
pub gathers_sent : {A E : Type 0} (r : Result A E) (o n : List ℕ) (u w : Option (List ℕ)) (b : List ℕ) → OnOk r (Appends u w (o ++ b))
    → OnOk r (n ≡ []) → OnOk r (Gathers o n u w b)
gathers_sent (Ok x) o n u w b sent none = record {
  sent = o ++ b;
  wrote = sent;
  whole = sym (append-nil (o ++ b)) ∙ ap (λ (l : List ℕ). (o ++ b) ++ l) (sym none);
}
gathers_sent (Err e) o n u w b sent none = tt

-- all of it was written
pub sent_gathered : (o m : List ℕ) (u v w : Option (List ℕ)) (a : List ℕ) → Gathers o m u v a → Appends v w m → Appends u w (o ++ a)
sent_gathered o m u v w a first second =
    subst (Appends u w) (sym first.whole) (Appends-trans u v w first.sent m first.wrote second)

-- what was gathered, and more, was written to a point
pub began_on : (m : List ℕ) (u v w : Option (List ℕ)) (a b : List ℕ) → Gathers [] m u v a → Began v w (m ++ b) → Began u w (a ++ b)
began_on m u v w a b first second =
    subst (Began u w) (sym (append_assoc first.sent m b) ∙ ap (λ (l : List ℕ). l ++ b) (sym first.whole))
    (began_then u v w first.sent (m ++ b) first.wrote second)
