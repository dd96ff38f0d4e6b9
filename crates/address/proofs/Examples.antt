-- The examples of RFC 4291, section 2.2, and texts that are refused: what the definition says of them, by computation.
-- Assumes nothing.
use Rattle.std.specs.Prelude.{Option, Some, None}
use mathlib.Core.Path.{◌≡◌, refl}
use mathlib.Core.List.{List, [], ◌∷◌, map}
use Prim.Native.Nat.{ℕ}
use Prim.Native.String.{String}
use Rattle.byte.specs.Byte.{between}
use Rattle.byte.specs.Digit.{digit_of}
use Rattle.byte.specs.Same.{same}
use Rattle.byte.specs.Ascii.{bytes}
use Rattle.number.specs.Digits.{all_digits, value_from, value_in}
use Rattle.number.specs.Number.{digits_in}
use Rattle.split.specs.Split.{split}
use Rattle.ipv4.specs.V4.{part_of, parts_of, v4_of}
use Rattle.address.specs.declared.Kind.{Kind}
use Rattle.address.specs.declared.Address.{Address}
use Rattle.address.specs.Address.{group_of, groups_of, side_of, gap_at, quad, v6_of, address_of}

abbrev four : ℕ → Option Address
four v = Some (record { kind = Kind.V4 v })

abbrev six : ℕ → ℕ → Option Address
six high low = Some (record { kind = Kind.V6 high low })

pub table : List (String × Option Address)
table =
    ("0.0.0.0", four 0)
    ∷ ("255.255.255.255", four 4294967295)
    ∷ ("192.0.2.1", four 3221225985)
    ∷ ("13.1.68.3", four 218186755)
    ∷ ("ABCD:EF01:2345:6789:ABCD:EF01:2345:6789", six 0xabcdef0123456789 0xabcdef0123456789)
    ∷ ("2001:DB8:0:0:8:800:200C:417A", six 0x20010db800000000 0x80800200c417a)
    ∷ ("2001:DB8::8:800:200C:417A", six 0x20010db800000000 0x80800200c417a)
    ∷ ("FF01:0:0:0:0:0:0:101", six 0xff01000000000000 0x101)
    ∷ ("FF01::101", six 0xff01000000000000 0x101)
    ∷ ("::1", six 0x0 0x1)
    ∷ ("::", six 0x0 0x0)
    ∷ ("0:0:0:0:0:0:13.1.68.3", six 0x0 0xd014403)
    ∷ ("::13.1.68.3", six 0x0 0xd014403)
    ∷ ("0:0:0:0:0:FFFF:129.144.52.38", six 0x0 0xffff81903426)
    ∷ ("::FFFF:129.144.52.38", six 0x0 0xffff81903426)
    ∷ ("1:2:3:4:5:6:7::", six 0x1000200030004 0x5000600070000)
    ∷ ("::ffff", six 0x0 0xffff)
    ∷ ("", None)
    ∷ ("1.2.3", None)
    ∷ ("1.2.3.4.5", None)
    ∷ ("01.2.3.4", None)
    ∷ ("1.2.3.00", None)
    ∷ ("256.1.1.1", None)
    ∷ ("1..2.3", None)
    ∷ ("1:2:3:4:5:6:7", None)
    ∷ ("1:2:3:4:5:6:7:8:9", None)
    ∷ ("1:2:3:4:5:6:7:8::", None)
    ∷ ("1:2:3:4::5:6:7:8", None)
    ∷ (":::", None)
    ∷ ("1::2::3", None)
    ∷ (":1:2:3:4:5:6:7:8", None)
    ∷ ("1:2:3:4:5:6:7:8:", None)
    ∷ ("12345::", None)
    ∷ ("::g", None)
    ∷ ("::1%eth0", None)
    ∷ ("1.2.3.4::", None)
    ∷ ("::1.2.3.4:5", None)
    ∷ ("1:2:3:4:5:6:7:1.2.3.4", None)
    ∷ ("1:2:3:4:5:6::1.2.3.4", None)
    ∷ []

pub examples : map (λ (r : String × Option Address). address_of (bytes r.0)) table ≡ map (λ (r : String × Option Address). r.1) table
unfolding table address_of v4_of parts_of part_of v6_of gap_at side_of groups_of group_of quad split digits_in all_digits value_in value_from digit_of between same
examples = refl
