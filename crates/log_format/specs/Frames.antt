-- The frames of a log: Database File Format, section 4.1. A page size is in bytes, pages are numbered from 1, frames from 0.
--
-- | offset | length | field                                                                    |
-- | 0      | 4      | the page's number                                                        |
-- | 4      | 4      | the database's size in pages, in the last frame of a commit; 0 elsewhere |
-- | 8      | 8      | the salts of the log's header                                            |
-- | 16     | 8      | checksum                                                                 |
-- | 24     | S      | the page's bytes, as they are to be stored                               |
use Rattle.std.specs.Prelude.{ℕ, Bool, not, ◌&&◌, ◌==◌, List, take, drop}
use Rattle.log_format.specs.declared.header.LogHeader.{LogHeader}
use Rattle.log_format.specs.declared.sum.LogSum.{LogSum}
use Rattle.log_format.specs.Bytes.{u32_at}
use Rattle.log_format.specs.Header.{stores_sum}
use Rattle.log_format.specs.Sums.{log_sum}

-- each of these is of the bytes of one frame
abbrev pub frame_page : List ℕ → ℕ
frame_page frame = u32_at frame 0

abbrev pub frame_pages : List ℕ → ℕ
frame_pages frame = u32_at frame 4

abbrev pub frame_image : List ℕ → List ℕ
frame_image frame = drop 24 frame

-- the checksum behind it, from the one before it
unfoldable pub frame_sum : Bool → LogSum → List ℕ → LogSum
frame_sum is_big before frame = log_sum is_big (log_sum is_big before (take 8 frame)) (frame_image frame)

-- it repeats the salts of the header
abbrev pub has_salts : LogHeader → List ℕ → Bool
has_salts header frame = u32_at frame 8 == header.salt && u32_at frame 12 == header.other_salt

-- its salts are the header's, its page has a number, and its checksum holds
abbrev pub is_sound_frame : LogHeader → LogSum → List ℕ → Bool
is_sound_frame header before frame =
    has_salts header frame && not (frame_page frame == 0) && stores_sum frame 16 (frame_sum header.is_big before frame)
