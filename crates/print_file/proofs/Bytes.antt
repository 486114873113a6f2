-- The bytes that were read, and zeros for those that were counted alone, are a file of which this was read.
use Prim.Native.Nat.{ℕ, ◌-◌, ◌≤◌}
use mathlib.Core.List.{List, ◌++◌, append-nil}
use mathlib.Core.Path.{◌≡◌, sym, ap, subst, ◌∙◌}
use native.Mathlib.Omega.{arith}
use lib.ListN.{length, take, replicate, length-append, length-replicate}
use lib.Seq.{length-take-le}
use Rattle.pages.specs.Page.{room_for, bytes_for, file_page}
use Rattle.page_openings.specs.Places.{FileRead, Opens}
use Rattle.page_openings.specs.declared.Opened.{Opened}
use Rattle.print_file.specs.Input.{Counted, bytes_held}

module _ (file : List ℕ) (n all : ℕ) (h : n ≤ length file) (room : length file ≡ 1000001) (c : Counted n (length file) all) where
  pub file_bytes : List ℕ
  file_bytes = take n file ++ replicate (all - n) 0

  bytes_many : length file_bytes ≡ all
  unfolding file_bytes
  bytes_many = omega (arith, length-append (take n file) (replicate (all - n) 0), length-take-le n file h, length-replicate {A = ℕ} (all - n) 0, c.least)

  whole : all ≤ bytes_held → take n file ≡ file_bytes
  unfolding file_bytes
  whole l =
      let e : all - n ≡ 0 = omega (arith, c.all (omega (arith, c.least))) in
      sym (ap (λ k. take n file ++ replicate k 0) e ∙ append-nil (take n file))

  pub file_read : FileRead file_bytes (take n file) all bytes_held
  file_read = record { within = omega (arith, bytes_many); counted = λ _. sym bytes_many; whole = whole }

-- the room of the same work area by another name
pub with_work : (bytes : List ℕ) (n w v : ℕ) (ss ds ws st mk : List ℕ) (o : Opened) → w ≡ v
    → Opens (file_page (bytes_for bytes_held) (room_for (record { items = n; work = v })) bytes) (record { items = n; work = v }) ss ds ws st mk o
    → Opens (file_page (bytes_for bytes_held) (room_for (record { items = n; work = w })) bytes) (record { items = n; work = w }) ss ds ws st mk o
with_work bytes n w v ss ds ws st mk o e h =
    subst (λ k. Opens (file_page (bytes_for bytes_held) (room_for (record { items = n; work = k })) bytes) (record { items = n; work = k }) ss ds ws st mk o)
    (sym e) h
