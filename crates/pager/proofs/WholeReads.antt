-- What a read of a file gives, where the file has all the bytes.
use Rattle.std.proofs.Common.{◌≡◌, ◌+◌, ◌*◌, ◌-◌, ◌≤◌, List, [], ℕ, length, take, drop, Option, Some, None, unwrap_or, ap, arith, length-take, length-drop}
use Rattle.edge_model.specs.Files.{File, bytes_of, with_file_bytes, read_from}

-- as many bytes as were asked for
pub all_read : (file : Option File) (at n count : ℕ) (page : List ℕ) → bytes_of (with_file_bytes (read_from at n) file) ≡ Some (take count page)
    → at + n ≤ length (unwrap_or (bytes_of file) []) → n ≤ count
all_read None at n count page read within = cc
all_read (Some file) at n count page read within =
    let same : take n (drop at file.bytes) ≡ take count page = cc in
    omega (arith, length-take n (drop at file.bytes), length-drop at file.bytes, length-take count page, ap length same)

-- and they are those of the file
pub bytes_read : (file : Option File) (at n count : ℕ) (page : List ℕ)
    → bytes_of (with_file_bytes (read_from at n) file) ≡ Some (take count page)
    → take count page ≡ take n (drop at (unwrap_or (bytes_of file) []))
bytes_read None at n count page read = cc
bytes_read (Some file) at n count page read = cc

-- where page n ends
pub page_end : (n size : ℕ) → 1 ≤ n → (n - 1) * size + size ≡ n * size
page_end n size positive = let next : (n - 1) + 1 ≡ n = omega arith in omega (arith, ap (λ m. m * size) next)
