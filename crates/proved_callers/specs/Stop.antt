-- What a stop leaves of the files of a station.
use Rattle.sqlite.specs.Files.{image_of}
use Rattle.sqlite_disk.specs.declared.Disk.{Ghosts}
use Rattle.sqlite_disk.specs.declared.Files.{Files}
use Rattle.sqlite_wal.specs.Files.{outcomes}
use Rattle.sqlite_wal.specs.Reads.{AreClean}
use Rattle.sqlite_wal.specs.Recovery.{Image}
use Rattle.x12_records.specs.Left.{AreLeft}

-- what an open of a station requires of files: the station that they name wrote them
abbrev pub MayOpen : {D : Type 0} → Ghosts D → Files D → Type 0
MayOpen g files = AreClean g files.log files.db → AreLeft (image_of g files)

-- what the end of a station ensures of files: whatever a stop leaves of them, the station that they
-- name wrote it
abbrev pub MayStop : {D : Type 0} → Ghosts D → Files D → Type 0
MayStop g files = AreClean g files.log files.db → (image : Image) →
    outcomes g files.log files.db image → AreLeft image
