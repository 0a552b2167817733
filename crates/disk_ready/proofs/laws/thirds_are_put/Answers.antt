-- Of a status first where its unit is, by which the store then computes.
use Rattle.std.proofs.Common.{◌≡◌, ◌∙◌, ap, refl, ℕ, Option, Some}
use Rattle.host_layout.specs.declared.layout.Area.TheVariants.{OfTag}
use Rattle.host_layout.specs.declared.layout.TagArea.TheVariants.{StatusUnit}
use Rattle.host_layout.specs.Places.{place_of}
use Rattle.host_trbs.specs.Words.{bytes_of}
use Rattle.disk_ready.specs.Puts.{status_first, status_stored}
use Rattle.disk_ready.proofs.laws.thirds_are_put.Goals as goal

pub returns-clause-data_in : goal.returns-clause-data_in
returns-clause-data_in c = λ k layout sent spots put base tags pieces tag way third status. rw (tag, way, third, tags, pieces, base) refl

pub returns-clause-data_out : goal.returns-clause-data_out
returns-clause-data_out c = λ k layout sent spots put base tags pieces tag way third status. rw (tag, way, third, tags, pieces, base) refl

pub returns-clause-status : goal.returns-clause-status
returns-clause-status c = λ k layout sent spots put base tags pieces tag way third status. rw (tag, status, tags, base) refl

pub returns-clause-status_trb : goal.returns-clause-status_trb
unfolding bytes_of
returns-clause-status_trb c = λ k layout sent spots put base tags pieces tag way third status.
    let unit : place_of layout (OfTag sent.tag StatusUnit) ≡ Some 0x10010100 = rw (tag, tags, base) refl in
    ap (λ (at : Option ℕ). status_stored at layout sent spots.status_third) unit ∙ rw (tag, status, tags, base) refl

pub returns-clause-status_first : goal.returns-clause-status_first
unfolding bytes_of
returns-clause-status_first c = λ k layout sent spots put base tags pieces tag way third status.
    let unit : place_of layout (OfTag sent.tag StatusUnit) ≡ Some 0x10010100 = rw (tag, tags, base) refl in
    ap (λ (at : Option ℕ). status_first at layout sent spots.status_third) unit ∙ rw (tag, status, tags, base) refl
