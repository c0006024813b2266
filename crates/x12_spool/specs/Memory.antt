-- What folders in memory tell.
use Rattle.std.specs.Prelude.{map}
use Rattle.x12_spool.specs.declared.memory.Done.{Done}
use Rattle.x12_spool.specs.declared.memory.Done.TheVariants as done
use Rattle.x12_spool.specs.declared.memory.Stored.{Stored}
use Rattle.x12_spool.specs.Deed.{File, Deed, Lists, Reads, PassesOver, Sends, Puts, Confirms, SetsAside, Removes, file_view}

abbrev pub deed_of_done : Done → Deed
deed_of_done (done.Listed files) = Lists (map file_view files.items)
deed_of_done (done.Read name bytes) = Reads name.items bytes.items
deed_of_done (done.PassedOver name) = PassesOver name.items
deed_of_done (done.Sent bytes) = Sends bytes.items
deed_of_done (done.Put item bytes) = Puts item bytes.items
deed_of_done (done.Confirmed item) = Confirms item
deed_of_done (done.SetAside name bytes reason) = SetsAside name.items bytes.items reason
deed_of_done (done.Removed name) = Removes name.items

abbrev pub stored_view : Stored → File
stored_view f = record { name = f.name.items; word = f.word }
