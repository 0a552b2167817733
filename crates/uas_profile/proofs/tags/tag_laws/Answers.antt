use Rattle.uas_profile.proofs.TagLaws.{named-is_place, place-is_named, unnamed-is_above, place-of_its_tag, slots-below_tags, tag-of_its_place, tags-apart, tags-within}
use Rattle.uas_profile.proofs.tags.tag_laws.Goals as goal

pub returns-clause-place : goal.returns-clause-place
returns-clause-place c = tag-of_its_place

pub returns-clause-tag : goal.returns-clause-tag
returns-clause-tag c = place-of_its_tag

pub returns-clause-slot : goal.returns-clause-slot
returns-clause-slot c = slots-below_tags

pub returns-clause-apart : goal.returns-clause-apart
returns-clause-apart c = tags-apart

pub returns-clause-within : goal.returns-clause-within
returns-clause-within c = tags-within

pub returns-clause-named : goal.returns-clause-named
returns-clause-named c = named-is_place

pub returns-clause-names : goal.returns-clause-names
returns-clause-names c = place-is_named

pub returns-clause-above : goal.returns-clause-above
returns-clause-above c = unnamed-is_above
