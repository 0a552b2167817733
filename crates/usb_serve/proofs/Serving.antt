-- Packets that were served, and one more.
use Rattle.std.proofs.Common.{◌≡◌, ◌∙◌, ℕ, ◌+◌, Bool, List, [], ◌∷◌, ◌++◌, Option, inl, inr, refl, sym, ap, subst, append_assoc, append-nil, arith}
use Rattle.std.proofs.lemmas.List.{length-append}
use Rattle.std.specs.Io.KnownBytes.{Appends}
use Rattle.std.proofs.KnownBytes.{Appends-nil, Appends-trans}
use Rattle.usb_tags.specs.declared.UsbTags.{UsbTags}
use Rattle.usb_serve.specs.Files.{Filed}
use Rattle.usb_serve.specs.declared.fault.UsbFault.{UsbFault}
use Rattle.usb_serve.specs.declared.fault.UsbFault.TheVariants as fault
use Rattle.usb_serve.specs.declared.packets.Came.{Came}
use Rattle.usb_serve.specs.Packets.{ReadsPacket, Unread}
use Rattle.usb_serve.specs.Sessions.{Exchange, Exchanges, ServeBroken, Served, sent_text}
use Rattle.usb_serve.specs.Steps.{IsBroken, IsDone, IsSent, StepsFail, World, arrived, world}

Exchanges-then : (exchanges : List Exchange) (x : Exchange) (left middle : Option (List ℕ)) (old last : World) → Exchanges left old exchanges middle last
    → ReadsPacket x.came x.bytes middle x.left → IsDone (arrived last x.came x.bytes) x.text x.after
    → Exchanges left old (exchanges ++ (x ∷ [])) x.left x.after
unfolding Exchanges
Exchanges-then [] x left middle old last before read done = (
  subst (λ (l : Option (List ℕ)). ReadsPacket x.came x.bytes l x.left) before.0 read,
  subst (λ (w : World). IsDone (arrived w x.came x.bytes) x.text x.after) before.1 done,
  (refl, refl),
)
Exchanges-then (first ∷ others) x left middle old last before read done =
    (before.0, before.1, Exchanges-then others x first.left middle first.after last before.2 read done)

sent_text-then : (exchanges : List Exchange) (x : Exchange) → sent_text (exchanges ++ (x ∷ [])) ≡ sent_text exchanges ++ x.text
sent_text-then [] x = append-nil x.text
sent_text-then (first ∷ others) x =
    ap (λ (t : List ℕ). first.text ++ t) (sent_text-then others x) ∙ sym (append_assoc first.text (sent_text others) x.text)

pub served_none : (old : World) (left written : Option (List ℕ)) → Served 0 old old left left written written
unfolding Exchanges
served_none old left written = record { exchanges = []; many = refl; are = (refl, refl); sent = Appends-nil written }

pub served_then : (count : ℕ) (old last new : World) (l lm ln w wm wn : Option (List ℕ)) (came : Came) (bytes : List ℕ)
    → Served count old last l lm w wm → ReadsPacket came bytes lm ln → IsSent (arrived last came bytes) new wm wn
    → Served (count + 1) old new l ln w wn
served_then count old last new l lm ln w wm wn came bytes before read sent =
    let x : Exchange = record { came = came; bytes = bytes; text = sent.0; left = ln; after = new } in
    record {
      exchanges = before.exchanges ++ (x ∷ []);
      many = omega (arith, length-append before.exchanges (x ∷ []), before.many);
      are = Exchanges-then before.exchanges x l lm old last before.are read sent.1;
      sent = subst (Appends w wn) (sym (sent_text-then before.exchanges x))
          (Appends-trans w wm wn (sent_text before.exchanges) sent.0 before.sent sent.2);
    }

-- none was read behind them
pub broken_unread : (reason : UsbFault) (can_read now can_write : Bool) (count : ℕ) (old new : World) (l lm ln w wn : Option (List ℕ)) → now ≡ can_read
    → Served count old new l lm w wn → Unread reason now lm ln → ServeBroken reason can_read can_write old new l ln w wn
broken_unread reason can_read now can_write count old new l lm ln w wn same served unread = record {
  count = count;
  last = new;
  left_last = lm;
  written_last = wn;
  served = served;
  ends = inl (record { same = refl; silent = refl; why = inl (subst (λ (b : Bool). Unread reason b lm ln) same unread) });
}

pub broken_most : (can_read can_write : Bool) (count : ℕ) (old new : World) (l ln w wn : Option (List ℕ)) → count ≡ 18446744073709551615
    → Served count old new l ln w wn → ServeBroken fault.TooMany can_read can_write old new l ln w wn
broken_most can_read can_write count old new l ln w wn most served = record {
  count = count;
  last = new;
  left_last = ln;
  written_last = wn;
  served = served;
  ends = inl (record { same = refl; silent = refl; why = inr (refl, most) });
}

pub fails_at : (reason : UsbFault) (can_write : Bool) (d e : UsbTags) (files : List Filed) (new : World) → d ≡ e
    → StepsFail reason can_write (world d files) new → StepsFail reason can_write (world e files) new
fails_at reason can_write d e files new same fails = subst (λ (device : UsbTags). StepsFail reason can_write (world device files) new) same fails

-- one was served up to some step
pub broken_packet : (reason : UsbFault) (can_read can_write now : Bool) (count : ℕ) (old last new : World) (l lm ln w wm wn : Option (List ℕ))
    (came : Came) (bytes : List ℕ) → now ≡ can_write → Served count old last l lm w wm → ReadsPacket came bytes lm ln
    → IsBroken (arrived last came bytes) new wm wn → StepsFail reason now (arrived last came bytes) new → ServeBroken reason can_read can_write old new l ln w wn
broken_packet reason can_read can_write now count old last new l lm ln w wm wn came bytes same served read broken why = record {
  count = count;
  last = last;
  left_last = lm;
  written_last = wm;
  served = served;
  ends = inr (record { came = came; bytes = bytes; read = read; broken = broken; why = subst (λ (b : Bool). StepsFail reason b (arrived last came bytes) new) same why });
}
