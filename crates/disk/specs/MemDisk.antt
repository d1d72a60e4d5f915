-- A disk in memory, seen as the files of a disk.
use Rattle.disk.specs.declared.side.Side.{Side}
use Rattle.disk.specs.declared.mem_disk.MemDisk.{MemDisk}
use Rattle.disk.specs.declared.mem_disk.Fill.{Fill}
use Rattle.disk.specs.Side.{pick}
use Rattle.disk.specs.File.{File, MayLeave}
use Rattle.disk.specs.Time.{Contents}
use Rattle.disk.specs.Calls.{files_after}

abbrev pub files_of : MemDisk → Side → File
files_of disk = files_after disk.a.items disk.b.items disk.history.calls.items

-- the contents that a crash is to leave
abbrev pub fill_of : Fill → Contents
fill_of fill = pick fill.a.items fill.b.items

-- a crash may leave what reads give
pub reads_left : (disk : MemDisk) (side : Side) → MayLeave (files_of disk side).durable (files_of disk side).content
reads_left disk = disk.reads_left
