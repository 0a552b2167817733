-- What is kept of a tag beside the device, and all that a step for it may change.
use Rattle.guest_tags.specs.declared.tag.Tag.{Tag}
use Rattle.guest_pipes.specs.Step.{World}

-- the world of a step for a tag: memory, event ring and consumer; the tag; the device
pub record TagWorld (D : Type 0) : Type 0 where
  pub ring : World
  pub tag : Tag
  pub device : D
