-- What a host is told of the pages. Cited by the law `disk_lists_are_true`.
use Rattle.std.proofs.Common.{◌≡◌, ℕ, ◌==◌, Bool, true, false, cond, ◌||◌, Option, Some, None, IfSome, is_some, refl}
use Rattle.std.proofs.lemmas.Bool.{eqb-true}
use Rattle.disk_units.specs.declared.pages.DiskPage.{DiskPage}
use Rattle.disk_units.specs.declared.pages.DiskPage.TheVariants.{SupportedPages, UnitSerialNumber, DeviceIdentification, ExtendedInquiry}
use Rattle.disk_units.specs.declared.pages.DiskPage.TheVariants.{BlockLimits as LimitsPage, Characteristics, Provisioning}
use Rattle.disk_units.specs.Data.{disk_page_bytes}
use Rattle.disk_units.specs.Pages.{identification_of, limits_of, serial_told}
use Rattle.disk_units.specs.Told.{DiskPagesAreListed, DiskPagesTellThemselves, TellsItself}

-- one page more, whose code this is or isn't
listed : (is_code : Bool) (page : DiskPage) (rest : Option DiskPage) (others : Bool) → is_some rest ≡ others
    → is_some (cond is_code (Some page) rest) ≡ (is_code || others)
listed true page rest others same = refl
listed false page rest others same = same

pub pages_listed : DiskPagesAreListed
unfolding disk_page_bytes
pages_listed code number block_bytes unit names present =
    listed (code == 0x00) SupportedPages _ _ (listed (code == 0x80) (UnitSerialNumber (serial_told unit number)) _ _
    (listed (code == 0x83) (DeviceIdentification (identification_of unit names number)) _ _ (listed (code == 0x86) ExtendedInquiry _ _
    (listed (code == 0xb0) (LimitsPage (limits_of unit block_bytes)) _ _ (listed (code == 0xb1) (Characteristics unit.rotation unit.form) _ _
    (listed (code == 0xb2) (Provisioning unit.thin) _ _ refl))))))

tells : (code one : ℕ) (present : Bool) (page : DiskPage) (rest : Option DiskPage) → TellsItself one present page → IfSome rest (TellsItself code present)
    → IfSome (cond (code == one) (Some page) rest) (TellsItself code present)
tells code one present page rest so others =
    elim (code == one) as (λ b. code == one ≡ b → IfSome (cond b (Some page) rest) (TellsItself code present)) [
      | true ↦ λ is. rw (eqb-true code one is) so
      | false ↦ λ is. others
    ] refl

pub pages_tell : DiskPagesTellThemselves
unfolding disk_page_bytes
pages_tell code number block_bytes unit names present =
    tells code 0x00 present SupportedPages _ (refl, refl) (tells code 0x80 present (UnitSerialNumber (serial_told unit number)) _ (refl, refl)
    (tells code 0x83 present (DeviceIdentification (identification_of unit names number)) _ (refl, refl) (tells code 0x86 present ExtendedInquiry _ (refl, refl)
    (tells code 0xb0 present (LimitsPage (limits_of unit block_bytes)) _ (refl, refl) (tells code 0xb1 present (Characteristics unit.rotation unit.form) _ (refl, refl)
    (tells code 0xb2 present (Provisioning unit.thin) _ (refl, refl) (tt {0})))))))
