-- The exit status of a fault.
use Rattle.std.proofs.Common.{◌≡◌, ◌∙◌, ◌⊎◌, ℕ, inl, inr, refl, arith}
use Rattle.usb_serve.specs.declared.fault.UsbFault.{UsbFault}
use Rattle.usb_serve.specs.declared.fault.UsbFault.TheVariants as fault
use Rattle.usb_serve.specs.Faults.{status_of}

status_is : (reason : UsbFault) → (status_of reason ≡ 3) ⊎ (status_of reason ≡ 4)
status_is (fault.Packet is) = inl refl
status_is fault.NoMemory = inr refl
status_is fault.Ended = inl refl
status_is fault.Stream = inl refl
status_is fault.TooMany = inl refl
status_is fault.Answer = inl refl
status_is (fault.File unit) = inl refl

status_of_fault : (n s : ℕ) → n ≡ s → (s ≡ 3) ⊎ (s ≡ 4) → (n ≡ 0) ⊎ ((n ≡ 3) ⊎ (n ≡ 4))
status_of_fault n s e (inl is) = inr (inl (e ∙ is))
status_of_fault n s e (inr is) = inr (inr (e ∙ is))

pub statuses : (n : ℕ) (reason : UsbFault) → n ≡ status_of reason → (n ≡ 0) ⊎ ((n ≡ 3) ⊎ (n ≡ 4))
statuses n reason e = status_of_fault n (status_of reason) e (status_is reason)

none_of : (n s : ℕ) → n ≡ s → n ≡ 0 → (s ≡ 3) ⊎ (s ≡ 4) → ⊥
none_of n s e none (inl is) = omega (arith, e, none, is)
none_of n s e none (inr is) = omega (arith, e, none, is)

-- none is 0
pub not_done : (n : ℕ) (reason : UsbFault) → n ≡ status_of reason → n ≡ 0 → ⊥
not_done n reason e none = none_of n (status_of reason) e none (status_is reason)
