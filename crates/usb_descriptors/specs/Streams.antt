-- How many tags have streams, and how large the stream arrays are (xHCI 4.12.2 and 6.2.3).
use Rattle.std.specs.Prelude.{ℕ, ◌+◌, ◌-◌, ◌^◌, min, nat_lt, if◌then◌else◌, Result, Ok, Err}
use Rattle.usb_descriptors.specs.declared.Pipes.{Pipes}
use Rattle.usb_descriptors.specs.declared.stream_tags.Streams.{Streams}
use Rattle.usb_descriptors.specs.declared.DescriptorFault.{DescriptorFault}
use Rattle.usb_descriptors.specs.declared.DescriptorFault.TheVariants.{NoStreams}
use Rattle.usb_descriptors.specs.declared.TheConstants.{MOST_ASKED}

-- the stream numbers of an array of 2^exponent contexts: number 0 is no stream
abbrev pub numbers_of : ℕ → ℕ
numbers_of exponent = 2 ^ exponent - 1

-- The least of what is asked, of what the controller has, whose arrays have at most 2^(MaxPSASize + 1) contexts, and of what each of the three
-- pipes with streams has. Checked by hand: 254 asked, MaxStreams 4 of each pipe and MaxPSASize 7 are 15 tags; MaxPSASize 0 is 1 tag.
abbrev pub tags_of : ℕ → Pipes → ℕ → ℕ
tags_of asked pipes max_psa_size =
    min (min (min (min (min asked MOST_ASKED) (numbers_of (max_psa_size + 1))) (numbers_of pipes.status.max_streams)) (numbers_of pipes.data_in.max_streams))
    (numbers_of pipes.data_out.max_streams)

-- MaxPStreams for so many tags: an array of 2^(MaxPStreams + 1) contexts, at least 4, is the smallest that has more contexts than there are tags
abbrev pub field_of : ℕ → ℕ
field_of tags =
    if nat_lt tags 4 then 1
    else (if nat_lt tags 8 then 2
    else (if nat_lt tags 16 then 3
    else (if nat_lt tags 32 then 4
    else (if nat_lt tags 64 then 5
    else (if nat_lt tags 128 then 6
    else 7)))))

abbrev pub arrays_of : ℕ → Streams
arrays_of tags = record { tags = tags; contexts = 2 ^ (field_of tags + 1); max_primary_streams = field_of tags }

-- fewer than two tags are refused
abbrev pub streams_of : ℕ → Pipes → ℕ → Result Streams DescriptorFault
streams_of asked pipes max_psa_size =
    if nat_lt (tags_of asked pipes max_psa_size) 2 then Err NoStreams else Ok (arrays_of (tags_of asked pipes max_psa_size))
