-- A file that was flushed behind a session.
use Rattle.std.proofs.Common.{◌≡◌, ◌⊎◌, Bool, length, Result, Ok, Err, inl, inr, subst, sym, ◌∙◌}
use Rattle.std.specs.Prelude.{IsTrue, OnErr, OnOk}
use Rattle.file_disk.specs.declared.DiskFault.{DiskFault}
use Rattle.serve_run.specs.Filed.{Filed, IsFlushed, IsKept}

pub flushed_behind : (r : Result (Unit {0}) DiskFault) (can now_can tells now_tells : Bool) (last new : Filed) → now_can ≡ can → now_tells ≡ tells
    → OnOk r (IsTrue now_tells → new.synced ≡ new.holds) → OnOk r (IsTrue now_tells → new.holds ≡ last.holds)
    → OnErr r (IsTrue now_tells → new.synced ≡ last.synced) → (IsTrue now_tells → length new.holds ≡ length last.holds)
    → OnErr r (IsTrue now_can) → IsTrue tells → IsFlushed last new ⊎ (IsTrue can × IsKept last new)
flushed_behind (Ok done) can now_can tells now_tells last new same told safe holds kept len fails = λ t.
    let now : IsTrue now_tells = subst (λ (b : Bool). IsTrue b) (sym told) t in
    inl (record { holds = holds now; safe = safe now ∙ holds now })
flushed_behind (Err failed) can now_can tells now_tells last new same told safe holds kept len fails = λ t.
    let now : IsTrue now_tells = subst (λ (b : Bool). IsTrue b) (sym told) t in
    inr (subst (λ (b : Bool). IsTrue b) same fails, record { len = len now; safe = kept now })
