-- The file of standard input. No contract can say which bytes it gave, so these say: there are bytes, and what was opened is right for them.
use Rattle.std.specs.Prelude.{ℕ, ◌<◌, ◌≤◌, List, ◌≡◌}
use Rattle.pages.specs.Page.{Room, room_for, bytes_for, file_page}
use Rattle.page_openings.specs.Places.{Opens}
use Rattle.page_openings.specs.declared.Opened.{Opened}

-- The files that the program holds have at most so many bytes.
abbrev pub bytes_held : ℕ
bytes_held = 1000000

-- how many bytes there are: as many as were read where they did not fill the room, else as many or more
pub record Counted (read room total : ℕ) : Type 0 where
  pub least : read ≤ total
  pub all : read < room → total ≡ read

-- a file was opened
pub record FileOpened (r : Room) (ss ds ws starts₁ marks₁ : List ℕ) (o : Opened) : Type 0 where
  pub bytes : List ℕ
  pub opens : Opens (file_page (bytes_for bytes_held) (room_for r) bytes) r ss ds ws starts₁ marks₁ o
