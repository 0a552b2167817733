-- What each side says first, as bytes.
use Rattle.std.specs.Prelude.{◌≡◌, ℕ, ◌+◌, ◌-◌, ◌*◌, ◌/◌, ◌%◌, ◌^◌, ◌==◌, ◌&&◌, nat_le, if◌then◌else◌, Bool, List, [], ◌∷◌, ◌++◌, take, drop, length, replicate, flat_map, slice_index}
use Rattle.std.specs.List.{AllByRecursion}
use Rattle.std.specs.Prelude.{◌<◌, ◌≤◌, Result, Ok, Err}
use Rattle.byteorder.specs.Endian.{little_bytes}
use Rattle.usbredir.specs.declared.PacketFault.{PacketFault}
use Rattle.usbredir.specs.declared.PacketFault.TheVariants as fault
use Rattle.usbredir.specs.declared.hello.Hello.{Hello}
use Rattle.usbredir.specs.declared.kinds.Head.{Head}
use Rattle.usbredir.specs.Device.{numbers_in}

-- version, and capabilities in words of 4 bytes
unfoldable pub hello_text : Hello → List ℕ
hello_text hello = hello.version ++ flat_map (little_bytes 4) hello.capabilities.items

-- 64 bytes of version, and 1 to 16 words
abbrev pub is_hello_length : ℕ → Bool
is_hello_length count = (nat_le 68 count && nat_le count 128) && (count % 4 == 0)

unfoldable pub hello_in : List ℕ → Result Hello PacketFault
hello_in bytes =
    if is_hello_length (length bytes) then Ok (record {
      version = take 64 bytes;
      capabilities = record { items = numbers_in 4 ((length bytes - 64) / 4) (drop 64 bytes) };
    }) else Err fault.BadHello

-- 64 bytes of version, and 1 to 16 words that fit
pub record FitsHello (hello : Hello) : Type 0 where
  pub version : length hello.version ≡ 64
  pub some : 1 ≤ length hello.capabilities.items
  pub few : length hello.capabilities.items ≤ 16
  pub words : AllByRecursion (λ n. n < 2 ^ 32) hello.capabilities.items

-- how many bytes to read behind a hello's head
abbrev pub hello_room : Head → Result ℕ PacketFault
hello_room head = if (head.kind == 0) && is_hello_length head.length then Ok head.length else Err fault.BadHello

-- the head of a hello
abbrev pub hello_head : Hello → Head
hello_head hello = record { kind = 0; length = 64 + 4 * length hello.capabilities.items; id = 0 }

-- CAPABILITIES

-- capability n, below 32: bit n of the first word
abbrev pub has_capability : Hello → ℕ → Bool
has_capability hello n = slice_index hello.capabilities.items 0 / 2 ^ n % 2 == 1

-- streams of bulk endpoints, the version in device_connect, packet sizes in endpoint_info, ids of 8 bytes, lengths of 4 bytes
abbrev pub is_enough : Hello → Bool
is_enough hello =
    has_capability hello 0 && (has_capability hello 1 && (has_capability hello 4 && (has_capability hello 5 && has_capability hello 6)))

-- ours: those and filters, and the version `uasdisk usb`
abbrev pub our_hello : Hello
our_hello = record {
  version = (117 ∷ 97 ∷ 115 ∷ 100 ∷ 105 ∷ 115 ∷ 107 ∷ 32 ∷ 117 ∷ 115 ∷ 98 ∷ []) ++ replicate 53 0;
  capabilities = record { items = 0x77 ∷ [] };
}
