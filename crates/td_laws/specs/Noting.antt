-- A device that notes, in order, the bytes that it gave and those that it took.
use Rattle.std.specs.Prelude.{ℕ, List, [], ◌++◌, unwrap_or}
use Rattle.guest_tags.specs.Devices.{Kind}

pub record Noted (D : Type 0) : Type 0 where
  pub device : D
  pub given : List ℕ
  pub taken : List ℕ

-- it answers each call as the device does
abbrev pub noting : {D : Type 0} → Kind D → Kind (Noted D)
noting kind = record {
  phase = λ noted number. kind.phase noted.device number;
  given = λ noted number. kind.given noted.device number;
  gave = λ noted number. record noted {
    device = kind.gave noted.device number;
    given = noted.given ++ unwrap_or (kind.given noted.device number) [];
  };
  fits = λ noted number bytes. kind.fits noted.device number bytes;
  took = λ noted number bytes. record noted {
    device = kind.took noted.device number bytes;
    taken = noted.taken ++ bytes;
  };
  status = λ noted number. kind.status noted.device number;
  sent = λ noted number. record noted { device = kind.sent noted.device number };
  received = λ noted bytes. (record noted { device = (kind.received noted.device bytes).0 }, (kind.received noted.device bytes).1);
}
