-- What follows for a call from the contracts of the reader and the writer.
mod Calls
