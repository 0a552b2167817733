-- The page of a trace.
use Rattle.std.specs.Prelude.{ℕ, List, ◌++◌, codes}
use Rattle.std.specs.Fmt.{decimal}
use Rattle.uas_profile.specs.declared.TheConstants.{EVENT_RING_PLACES}
use Rattle.uas_decode.specs.Runs.{decoded}
use Rattle.draw_run.specs.declared.page.markup.TheConstants.{HEAD, STYLE, BODY}
use Rattle.draw_run.specs.declared.page.script_run.TheConstants.{SCRIPT_RUN}
use Rattle.draw_run.specs.declared.page.script_view.TheConstants.{SCRIPT_VIEW}
use Rattle.draw_run.specs.page.Embedded.{embedded}

-- what stands before the data, and behind it
unfoldable pub head : List ℕ
head = HEAD.now ++ STYLE.now ++ BODY.now

unfoldable pub tail : List ℕ
tail = SCRIPT_RUN.now ++ SCRIPT_VIEW.now

unfoldable pub number : List ℕ → ℕ → List ℕ
number name value = name ++ decimal value

-- the numbers that the script asks for: how many clients there are, how many tags each has, and how many places the event ring has
unfoldable pub numbers : ℕ → ℕ → List ℕ
numbers clients tags = number (codes "{\"clients\":") clients ++ number (codes ",\"tags\":") tags ++ number (codes ",\"events\":") EVENT_RING_PLACES

-- A trace as data: the trace with what its bytes say, as `decode` prints it, inside a string.
unfoldable pub data_of : ℕ → ℕ → List ℕ → List ℕ
data_of clients tags trace = numbers clients tags ++ codes ",\"text\":\"" ++ embedded (decoded trace) ++ codes "\"}"

-- the page of a trace of so many clients with so many tags each
unfoldable pub page_of : ℕ → ℕ → List ℕ → List ℕ
page_of clients tags trace = head ++ data_of clients tags trace ++ tail
