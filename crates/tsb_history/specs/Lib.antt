-- records of inputs, the newest first, the bytes that they take, and the room for further ones
pub mod History
-- how records are spelled in bytes, and read from their end
pub mod Bytes
-- that equal bytes are equal records
pub mod Laws
