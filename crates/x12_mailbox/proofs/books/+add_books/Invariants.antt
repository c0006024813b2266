use Rattle.std.proofs.Common.{length}
use Rattle.x12_mailbox.proofs.books.+add_books.Given as goal

-- how many folders are left
abbrev pub decreases-add_books : goal.decreases-add_books
decreases-add_books g l = length l.dirs.now
