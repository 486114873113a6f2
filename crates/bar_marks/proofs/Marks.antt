-- What is packed is section 4's mark, and unpacking gives back what was packed.
use Prim.Native.Nat.{◌+◌, ◌*◌, ◌/◌, ◌^◌}
use mathlib.Core.Option.{none, some}
use mathlib.Core.Path.{◌≡◌, refl}
use native.Mathlib.Omega.{arith}
use Rattle.rules.specs.Lists.{flag}
use Rattle.rules.specs.Bars.{mark_upper, mark_lower, mark_printed, mark_tempo, mark_fifths, mark_minor}
use Rattle.laws.proofs.Tests.{flag_small, flag_is}
use Rattle.bar_marks.specs.Marks.{packed, PacksMark, UnpacksPacked}

pub packs_mark : PacksMark
packs_mark m is_printed tempo none = refl
packs_mark m is_printed tempo (some k) = refl

pub unpacks_packed : UnpacksPacked
unpacks_packed m fits =
    let p = flag_small m.printed in
    let n = flag_small m.minor in
    let from_8 : packed m / 2 ^ 8 ≡ m.lower + flag m.printed * 2 ^ 8 + m.tempo * 2 ^ 9 + m.fifths * 2 ^ 19 + flag m.minor * 2 ^ 24 =
    omega (arith, fits.upper) in
    let from_16 : packed m / 2 ^ 16 ≡ flag m.printed + m.tempo * 2 + m.fifths * 2 ^ 11 + flag m.minor * 2 ^ 16 =
    omega (arith, fits.upper, fits.lower) in
    let from_17 : packed m / 2 ^ 17 ≡ m.tempo + m.fifths * 2 ^ 10 + flag m.minor * 2 ^ 15 =
    omega (arith, fits.upper, fits.lower, p) in
    let from_27 : packed m / 2 ^ 27 ≡ m.fifths + flag m.minor * 2 ^ 5 =
    omega (arith, fits.upper, fits.lower, fits.tempo, p) in
    let from_32 : packed m / 2 ^ 32 ≡ flag m.minor =
    omega (arith, fits.upper, fits.lower, fits.tempo, fits.fifths, p) in
    let upper : mark_upper (packed m) ≡ m.upper = omega (arith, fits.upper) in
    let lower : mark_lower (packed m) ≡ m.lower = rw from_8 (omega (arith, fits.lower)) in
    let printed : mark_printed (packed m) ≡ flag m.printed = rw from_16 (omega (arith, p)) in
    let tempo : mark_tempo (packed m) ≡ m.tempo = rw from_17 (omega (arith, fits.tempo)) in
    let fifths : mark_fifths (packed m) ≡ m.fifths = rw from_27 (omega (arith, fits.fifths)) in
    let minor : mark_minor (packed m) ≡ flag m.minor = rw from_32 (omega (arith, n)) in
    rw (upper, lower, printed, tempo, fifths, minor, flag_is, flag_is)
