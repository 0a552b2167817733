-- What an event tells beside the sense of a status: with the sense it is the notice.
use Rattle.std.specs.Prelude.{ℕ, List}
use Rattle.uas_host.specs.Notices.{Notice}
use Rattle.uas_host.specs.Notices as notice
use Rattle.uas_host.specs.declared.seen.Sight.{Sight}
use Rattle.uas_host.specs.declared.seen.Sight.TheVariants as sight

abbrev pub notice_by : List ℕ → Sight → Notice
notice_by sense sight.CommandSeen = notice.CommandSeen
notice_by sense sight.DataInSeen = notice.DataInSeen
notice_by sense sight.DataOutSeen = notice.DataOutSeen
notice_by sense (sight.Answered status) = notice.Answered status (record { items = sense })
notice_by sense (sight.Responded code) = notice.Responded code
notice_by sense (sight.TdRetired pipe) = notice.TdRetired pipe
