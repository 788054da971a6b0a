-- An image that is held as data.
use Rattle.std.specs.Prelude.{Option, Some, None}
use Rattle.edge_model.specs.Files.{File, Files}
use Rattle.edge_memory.specs.declared.mem_disk.image.Image.{Image}
use Rattle.edge_memory.specs.declared.mem_disk.image.Numbered.{Numbered}

abbrev pub numbered_file : Option Numbered → Option File
numbered_file None = None
numbered_file (Some file) = Some (record { number = file.number; bytes = file.bytes.items })

abbrev pub image_files : Image → Files
image_files image = record { main = numbered_file image.main; journal = numbered_file image.journal; fresh = numbered_file image.fresh }
