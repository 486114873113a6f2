-- A room of the same figures by another name.
use Prim.Native.Nat.{ℕ}
use mathlib.Core.List.{List}
use mathlib.Core.Path.{◌≡◌, sym, subst}
use Rattle.page_openings.specs.declared.Opened.{Opened}
use Rattle.printer.specs.Turns.{ReadyFor}

pub ready_work : (o : Opened) (n w v : ℕ) (ss ds ws st mk : List ℕ) → w ≡ v → ReadyFor o (record { items = n; work = v }) ss ds ws st mk
    → ReadyFor o (record { items = n; work = w }) ss ds ws st mk
ready_work o n w v ss ds ws st mk e h = subst (λ k. ReadyFor o (record { items = n; work = k }) ss ds ws st mk) (sym e) h

pub ready_items : (o : Opened) (n w : ℕ) (ss ds ws st mk : List ℕ) → n ≡ 60000 → ReadyFor o (record { items = 60000; work = w }) ss ds ws st mk
    → ReadyFor o (record { items = n; work = w }) ss ds ws st mk
ready_items o n w ss ds ws st mk e h = subst (λ k. ReadyFor o (record { items = k; work = w }) ss ds ws st mk) (sym e) h
